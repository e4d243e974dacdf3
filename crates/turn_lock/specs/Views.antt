-- What a pass knows, and how each step changes it; and what callers see of a lock and of a pass.
use Rattle.std.specs.Prelude.{◌≡◌, ℕ, ◌+◌, ◌-◌, Bool, true, false, List, [], ◌∷◌, ◌++◌, length, ◌<◌, Option, Some, None}
use Rattle.atomic_table.specs.Seated.{TableId}
use Rattle.atomic_table.specs.Table.{Me}
use Rattle.turn_lock.specs.declared.view.View.{View}
use Rattle.turn_lock.specs.Entries.{StandFrom, added, merge}

-- A lock, as callers see it: which one it is, and the value that was given to `start`.
pub record TurnView (T : Type 0) : Type 0 where
  pub which : TableId
  pub first : T

-- A pass, as callers see it.
pub record PassView (T E : Type 0) : Type 0 where
  pub which : TableId  -- the lock that it was made with
  pub first : Option T  -- the value that was given to `start` of that lock
  pub parts : ℕ  -- of the 1,024 parts of the lock
  pub inside : Bool  -- it has the value
  pub seen : List E  -- all entries of the value, when it last entered or left, or was told of them
  pub own : List (ℕ × E)  -- the entries that it added, each with its place

-- The pass was made with this lock.
pub record IsPassOf {T E : Type 0} (turn : TurnView T) (pass : PassView T E) : Type 0 where
  pub which : pass.which ≡ turn.which
  pub first : pass.first ≡ Some turn.first

-- What a pass has at any time between two calls: some part of the lock; own entries that stand in what it has seen; a ticket
-- exactly while it is inside, and then the slot, out of which the value was taken, and the number of entries that it found.
pub record IsAtRest {T E : Type 0} (me : Me (Option T) (View T E)) (count : ℕ) : Type 0 where
  pub parts : 0 < me.0.parts
  pub own : StandFrom 0 me.0.seen me.0.own
  pub ticket : me.0.waits ≡ me.0.inside
  pub outside : me.0.inside ≡ false → me.1 ≡ []
  pub slot : me.0.inside ≡ true → me.1 ≡ (0, None) ∷ []
  pub found : me.0.inside ≡ true → count ≡ length me.0.seen

module _ {T E : Type 0} where
  -- the first pass, with all parts
  abbrev pub starting : T → List E → View T E
  starting value entries = record {
    parts = 1024;
    waits = false;
    ticket = 0;
    inside = false;
    first = Some value;
    seen = entries;
    told = [];
    own = [];
  }

  -- it takes a ticket
  abbrev pub queueing : View T E → ℕ → View T E
  queueing v ticket = record v { waits = true; ticket = ticket }

  -- it goes in, and sees all entries
  abbrev pub entering : View T E → List E → View T E
  entering v entries = record v { inside = true; seen = entries }

  -- it counts the entries that stand behind those that it has seen: they are its own, at their places
  abbrev pub adding : View T E → List E → View T E
  adding v entries = record v { seen = entries; own = v.own ++ added v.seen entries }

  -- it passes the turn on
  abbrev pub leaving : View T E → View T E
  leaving v = record v { waits = false; inside = false }

  -- a split: what the pass keeps
  abbrev pub keeping : View T E → View T E
  keeping v = record v { parts = v.parts - 1 }

  -- a split: what the new pass has
  abbrev pub fresh : View T E → View T E
  fresh v =
      record {
        parts = 1;
        waits = false;
        ticket = 0;
        inside = false;
        first = v.first;
        seen = v.seen;
        told = [];
        own = [];
      }

  -- a join: what the pass has then
  abbrev pub both : View T E → View T E → View T E
  both v w = record v { parts = v.parts + w.parts; told = w.seen; own = merge v.own w.own }

  -- a join: what is left of the other pass, whatever it was
  abbrev pub nobody : View T E
  nobody = record { parts = 0; waits = false; ticket = 0; inside = false; first = None; seen = []; told = []; own = [] }

  -- it has seen these entries
  abbrev pub informed : View T E → List E → View T E
  informed v entries = record v { seen = entries; told = [] }
