-- Where a session of calls stands.
use Rattle.std.specs.Prelude.{◌≡◌, ◌<◌, ◌≤◌, ℕ, ◌+◌, List, [], ◌∷◌, ◌++◌, length, slice_index, ◌==◌}
use Rattle.std.specs.List.{count_by}
use Rattle.mg_model.specs.declared.replies.Answer.{Answer}
use Rattle.mg_recover.specs.declared.partition.Partition.{Partition}
use Rattle.mg_recover.specs.Stores.{log_book, log_volume, partitions_of, Stands}
use Rattle.mg_script.specs.declared.script.Line.{Line}
use Rattle.mg_wal.specs.Book.{synced_of, Book}
use Rattle.mg_wal.specs.Lists.{last_opened, Basis}
use Rattle.mg_serve.specs.declared.session.Session.{Session}
use Rattle.mg_serve.specs.Placed.{placed_of}
use Rattle.mg_serve.specs.Answers.{last_synced, line_limit, AllFit, AreNeeded}
use Rattle.mg_serve.specs.Statuses.{answers_status}
use Rattle.mg_serve.specs.Told.{call_number}

-- what contracts see of a session beside the volume of its log
pub record Standing : Type 0 where
  pub book : Book
  pub partitions : List Partition
  -- how many calls each client made
  pub counts : List ℕ
  pub status : ℕ

-- what is seen of a session
abbrev pub standing_of : {V A B C D : Type 0} {volume : _} {files : _} → Session V A B C D volume files → Standing
standing_of session = record { book = log_book session.store; partitions = partitions_of session.store; counts = session.counts; status = session.status }

-- the volume of the log of a session
abbrev pub session_volume : {V A B C D : Type 0} {volume : _} {files : _} → Session V A B C D volume files → V
session_volume session = log_volume session.store

-- A session stands where these answers to these lines led what the opening found.
pub record StandsAt (basis : Basis) (lines : List Line) (answers : List Answer) (standing : Standing) : Type 0 where
  pub fit : AllFit basis [] lines answers
  pub needed : AreNeeded basis [] (last_opened basis) lines answers
  pub synced : last_synced basis [] (last_opened basis) lines answers ≤ synced_of standing.book
  pub stands : Stands basis (placed_of lines answers) standing.book standing.partitions
  pub clients : length standing.counts ≡ 16
  pub counts : (client : ℕ) → client < 16 → slice_index standing.counts client ≡ count_by (λ other. other.client == client) lines
  pub status : standing.status ≡ answers_status answers
  pub newest : standing.book.newest ≤ basis.newest + length lines

-- a session was led by some answers to fewer lines than a script may have
pub record IsReached (standing : Standing) : Type 0 where
  pub basis : Basis
  pub lines : List Line
  pub answers : List Answer
  pub at : StandsAt basis lines answers standing
  pub few : length lines < line_limit

-- One call more was answered, as so many-th of its client.
pub record NextAnswer (basis : Basis) (lines : List Line) (answers : List Answer) (line : Line) (number : ℕ) (answer : Answer) (standing : Standing) : Type 0 where
  pub stands : StandsAt basis (lines ++ line ∷ []) (answers ++ answer ∷ []) standing
  pub numbered : number ≡ call_number lines line
