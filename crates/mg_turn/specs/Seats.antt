-- A seat at a turn's table.
use Rattle.std.specs.Prelude.{◌≡◌, ◌<◌}
use Rattle.atomic_table.specs.Seated.{TableId}
use Rattle.atomic_table.specs.declared.shared.Seat.{Seat}
use Rattle.mg_turn.specs.declared.rule.View.{View}
use Rattle.mg_turn.specs.declared.rule.Slot.{Slot}

-- a turn has two words and one slot
abbrev pub IsTurnTable : TableId → Type 0
IsTurnTable table = (table.words ≡ 2) × (table.slots ≡ 1)

module _ {T E : Type 0} where
  -- the seat is of this table, and has a part
  pub record IsAt (table : TableId) (seat : Seat (Slot T E) (View E)) : Type 0 where
    pub own : seat.table_id ≡ table
    pub sized : IsTurnTable table
    pub live : 0 < seat.me.0.parts

  pub record IsSame (old new : Seat (Slot T E) (View E)) : Type 0 where
    pub table : new.table_id ≡ old.table_id
    pub id : new.id ≡ old.id
