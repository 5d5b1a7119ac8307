use Rattle.mg_serve.proofs.Shown.{shown_places}
use Rattle.mg_serve.proofs.laws.places_shown_are_own.Goals as goal

pub returns : goal.returns
returns c = shown_places
