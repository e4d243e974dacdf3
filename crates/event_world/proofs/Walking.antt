-- Records put one after another, as steps of the world.
use Rattle.std.proofs.Common.{◌≡◌, ℕ, ◌+◌, ◌*◌, ◌^◌, ◌<◌, ◌≤◌, Bool, true, false, refl, List, [], ◌∷◌, ◌++◌, Option, ap, ◌∙◌, sym, subst, arith, append_assoc, append-nil}
use Rattle.std.specs.Bool.{⊤}
use Rattle.std.specs.Prelude.{nat_lt, if◌then◌else◌}
use Rattle.std.specs.List.{AllByRecursion as Every}
use Rattle.std.proofs.lemmas.Bool.Decides.{nat_tests}
use Rattle.event_records.specs.Putting.{AreMoves, IsMove, IsMoveTo}
use Rattle.event_world.specs.Stepping.{numbers_steps, record_steps, records_steps}
use Rattle.mesh_base.specs.IvState.{transmit_of}
use Rattle.mesh_base.specs.declared.address.Address.{Address}
use Rattle.mesh_base.specs.declared.iv_state.IvState.{IvState}
use Rattle.mesh_base.specs.declared.pair.Pair.{Pair}
use Rattle.mesh_world.specs.World.{after, after_all, AreAllowed, World, WorldStep}
use Rattle.mesh_world.specs.World.WorldStep.{Advance, Publish, Reserve}
use Rattle.node_records.proofs.Entries.{raised}
use Rattle.store_definitions.proofs.Pushes.{config_push, kept_push}
use Rattle.node_records.specs.Meaning.{IsMeaningOf}
use Rattle.node_records.specs.declared.persist.Persist.{Persist}
use Rattle.record_types.specs.declared.records.StoreRecord.{StoreRecord}
use Rattle.record_types.specs.declared.records.StoreRecord.TheVariants as R
use Rattle.store_definitions.specs.Config.{Config, changed, config_of}
use Rattle.store_definitions.specs.Entries.{entry_of, kept_after, kept_of, unexpired}
use Rattle.store_definitions.specs.Ranges.{IsMark}
use Rattle.store_world.specs.Standing.{IsWorldOf}

-- The world is one of a node whose store says these records, and whose published mark is this one.
pub record IsWorldOver (w : World) (records : List StoreRecord) (published : ℕ) : Type 0 where
  pub current : w.current ≡ (config_of records).iv.current
  pub kept : w.kept ≡ (config_of records).mark
  pub mark : w.mark ≡ published
  pub entries : (src : Address) → unexpired w.current (w.entry src) ≡ entry_of records src.0

-- it is that of a value that says the records
pub over : (w : World) (p : Persist) (records : List StoreRecord) (published : ℕ) → IsMeaningOf records p → IsWorldOf w p published → IsWorldOver w records published
over w p records published h world = record {
  current = world.current ∙ ap (λ (c : Config). c.iv.current) h.config;
  kept = world.kept ∙ ap (λ (c : Config). c.mark) h.config;
  mark = world.mark;
  entries = λ src. world.entries src ∙ h.entries src.0;
}

pub under : (w : World) (p : Persist) (records : List StoreRecord) (published : ℕ) → IsMeaningOf records p → IsWorldOver w records published → IsWorldOf w p published
under w p records published h world = record {
  current = world.current ∙ sym (ap (λ (c : Config). c.iv.current) h.config);
  kept = world.kept ∙ sym (ap (λ (c : Config). c.mark) h.config);
  mark = world.mark;
  entries = λ src. world.entries src ∙ sym (h.entries src.0);
}

-- the mark of the records is published, and they have a mark
pub record Stays (w : World) (records : List StoreRecord) : Type 0 where
  pub world : IsWorldOver w records (config_of records).mark
  pub mark : IsMark (config_of records).iv (config_of records).mark

-- the steps may be taken, and lead to such a world of these records
pub record Walks (steps : List WorldStep) (w : World) (records : List StoreRecord) : Type 0 where
  pub allowed : AreAllowed w steps
  pub stays : Stays (after_all w steps) records

join_allowed : (xs ys : List WorldStep) (w : World) → AreAllowed w xs → AreAllowed (after_all w xs) ys → AreAllowed w (xs ++ ys)
join_allowed [] ys w h k = k
join_allowed (x ∷ xs) ys w h k = (h.0, join_allowed xs ys (after w x) h.1 k)

join_after : (xs ys : List WorldStep) (w : World) → after_all (after_all w xs) ys ≡ after_all w (xs ++ ys)
join_after [] ys w = refl
join_after (x ∷ xs) ys w = join_after xs ys (after w x)

join : (xs ys : List WorldStep) (w : World) (records : List StoreRecord) → AreAllowed w xs → Walks ys (after_all w xs) records → Walks (xs ++ ys) w records
join xs ys w records h k = record {
  allowed = join_allowed xs ys w h k.allowed;
  stays = subst (λ v. Stays v records) (join_after xs ys w) k.stays;
}

-- A record that says neither numbers nor names.
module _ (w : World) (records : List StoreRecord) (item : StoreRecord) (iv : (c : Config) → transmit_of (changed c item).iv ≡ transmit_of c.iv) (current : (c : Config) → (changed c item).iv.current ≡ c.iv.current) (mark : (c : Config) → (changed c item).mark ≡ c.mark) (kept : (src : ℕ) (o : Option Pair) → kept_after src o item ≡ o) (h : Stays w records) where
  abbrev c : Config
  c = config_of records

  pushed : config_of (records ++ item ∷ []) ≡ changed c item
  pushed = config_push records item

  current_is : (config_of (records ++ item ∷ [])).iv.current ≡ c.iv.current
  current_is = ap (λ (d : Config). d.iv.current) pushed ∙ current c

  mark_is : (config_of (records ++ item ∷ [])).mark ≡ c.mark
  mark_is = ap (λ (d : Config). d.mark) pushed ∙ mark c

  transmit_is : transmit_of (config_of (records ++ item ∷ [])).iv ≡ transmit_of c.iv
  transmit_is = ap (λ (d : Config). transmit_of d.iv) pushed ∙ iv c

  pub quiet : Walks [] w (records ++ item ∷ [])
  quiet = record {
    allowed = tt;
    stays = record {
      world = record {
        current = h.world.current ∙ sym current_is;
        kept = h.world.kept ∙ sym mark_is;
        mark = h.world.mark ∙ sym mark_is;
        entries = λ src.
            h.world.entries src ∙ ap (λ n. unexpired n (kept_of records src.0)) (sym current_is)
            ∙ ap (unexpired (config_of (records ++ item ∷ [])).iv.current) (sym (kept_push records item src.0 ∙ kept src.0 (kept_of records src.0)));
      };
      mark = record {
        seq = h.mark.seq;
        word = mark_is ∙ h.mark.word ∙ ap (λ n. n * 2 ^ 25 + h.mark.seq) (sym transmit_is);
        most = h.mark.most;
        block = h.mark.block;
      };
    };
  }

-- A record of numbers, which is a move to an IV state that may follow.
module _ (w : World) (records : List StoreRecord) (current : ℕ) (progress : Bool) (mark hours since : ℕ) (h : Stays w records) where
  abbrev to : IvState
  to = record { current = current; progress = progress; hours = hours; since = since }

  abbrev numbers : StoreRecord
  numbers = R.Numbers current progress mark hours since

  abbrev was : Config
  was = config_of records

  current_so : current ≡ (config_of (records ++ numbers ∷ [])).iv.current
  unfolding changed
  current_so = sym (ap (λ (c : Config). c.iv.current) (config_push records numbers))

  mark_so : mark ≡ (config_of (records ++ numbers ∷ [])).mark
  unfolding changed
  mark_so = sym (ap (λ (c : Config). c.mark) (config_push records numbers))

  transmit_so : transmit_of to ≡ transmit_of (config_of (records ++ numbers ∷ [])).iv
  unfolding changed
  transmit_so = sym (ap (λ (c : Config). transmit_of c.iv) (config_push records numbers))

  entries_so : was.iv.current ≤ current → (src : Address) → unexpired current (w.entry src) ≡ entry_of (records ++ numbers ∷ []) src.0
  entries_so later src =
      let same : unexpired w.current (w.entry src) ≡ unexpired w.current (kept_of records src.0) =
      h.world.entries src ∙ ap (λ n. unexpired n (kept_of records src.0)) (sym h.world.current) in
      raised w.current current (w.entry src) (kept_of records src.0) (omega (arith, h.world.current)) same
      ∙ ap (λ n. unexpired n (kept_of records src.0)) current_so
      ∙ ap (unexpired (config_of (records ++ numbers ∷ [])).iv.current) (sym (kept_push records numbers src.0))

  moved_mark : IsMoveTo was to numbers → mark ≡ (if nat_lt (transmit_of was.iv) (transmit_of to) then transmit_of to * 2 ^ 25 else was.mark)
  unfolding changed
  moved_mark m = ap (λ (i : StoreRecord). (changed was i).mark) m.item_is

  less : nat_lt (transmit_of was.iv) (transmit_of to) ≡ true → transmit_of was.iv < transmit_of to
  less e = grind (arith, nat_tests)

  not_less : nat_lt (transmit_of was.iv) (transmit_of to) ≡ false → transmit_of to ≤ transmit_of was.iv
  not_less e = grind (arith, nat_tests)

  by_test : IsMoveTo was to numbers → (b : Bool) → nat_lt (transmit_of was.iv) (transmit_of to) ≡ b → mark ≡ (if b then transmit_of to * 2 ^ 25 else was.mark)
      → Walks (if b then Reserve current mark ∷ Publish mark ∷ Advance (transmit_of to) ∷ [] else Reserve current mark ∷ []) w (records ++ numbers ∷ [])
  by_test m true e is = record {
    allowed = (
      (omega (arith, h.world.current, m.current), omega (arith, h.world.kept, h.mark.word, h.mark.most, less e, is)),
      ((omega (arith, h.world.mark, h.mark.word, h.mark.most, less e, is), omega arith), (omega (arith, is), tt)),
    );
    stays = record {
      world = record { current = current_so; kept = mark_so; mark = mark_so; entries = entries_so m.current };
      mark = record { seq = 0; word = sym mark_so ∙ is ∙ omega (arith, transmit_so); most = omega arith; block = refl };
    };
  }
  by_test m false e is = record {
    allowed = ((omega (arith, h.world.current, m.current), omega (arith, h.world.kept, is)), tt);
    stays = record {
      world = record { current = current_so; kept = mark_so; mark = h.world.mark ∙ sym is ∙ mark_so; entries = entries_so m.current };
      mark = record {
        seq = h.mark.seq;
        word = omega (arith, mark_so, is, h.mark.word, m.rises, not_less e, transmit_so);
        most = h.mark.most;
        block = h.mark.block;
      };
    };
  }

  pub moves : IsMoveTo was to numbers → Walks (numbers_steps was to mark) w (records ++ numbers ∷ [])
  moves m = by_test m (nat_lt (transmit_of was.iv) (transmit_of to)) refl (moved_mark m)

-- it says no name
abbrev pub IsNameless : StoreRecord → Type 0
IsNameless (R.Replay first second) = ⊥
IsNameless _ = ⊤

one : (w : World) (records : List StoreRecord) (item : StoreRecord) → IsNameless item → IsMove (config_of records) item → Stays w records
    → Walks (record_steps (config_of records) item) w (records ++ item ∷ [])
unfolding changed transmit_of
one w records (R.Numbers current progress mark hours since) n m h = moves w records current progress mark hours since h m
one w records (R.Replay first second) n m h = absurd n
one w records (R.Identity unicast elements dev_key) n m h = quiet w records (R.Identity unicast elements dev_key) (λ c. refl) (λ c. refl) (λ c. refl) (λ src o. refl) h
one w records (R.Hour hours since) n m h = quiet w records (R.Hour hours since) (λ c. refl) (λ c. refl) (λ c. refl) (λ src o. refl) h
one w records (R.NetKey op index key) n m h = quiet w records (R.NetKey op index key) (λ c. refl) (λ c. refl) (λ c. refl) (λ src o. refl) h
one w records (R.AppKey op net index key) n m h = quiet w records (R.AppKey op net index key) (λ c. refl) (λ c. refl) (λ c. refl) (λ src o. refl) h
one w records (R.Bind op element model app) n m h = quiet w records (R.Bind op element model app) (λ c. refl) (λ c. refl) (λ c. refl) (λ src o. refl) h
one w records (R.Subscribe op element model address) n m h = quiet w records (R.Subscribe op element model address) (λ c. refl) (λ c. refl) (λ c. refl) (λ src o. refl) h
one w records (R.Feature which value) n m h = quiet w records (R.Feature which value) (λ c. refl) (λ c. refl) (λ c. refl) (λ src o. refl) h
one w records R.Reset n m h = quiet w records R.Reset (λ c. refl) (λ c. refl) (λ c. refl) (λ src o. refl) h
one w records (R.Model element model value) n m h = quiet w records (R.Model element model value) (λ c. refl) (λ c. refl) (λ c. refl) (λ src o. refl) h
one w records (R.Label op element model label) n m h = quiet w records (R.Label op element model label) (λ c. refl) (λ c. refl) (λ c. refl) (λ src o. refl) h
one w records (R.Publish row) n m h = quiet w records (R.Publish row) (λ c. refl) (λ c. refl) (λ c. refl) (λ src o. refl) h

nothing : (w : World) (records : List StoreRecord) → Stays w records → Walks [] w (records ++ [])
nothing w records h = subst (λ rs. Walks [] w rs) (sym (append-nil records)) (record { allowed = tt; stays = h })

-- records without names, one after another
pub walk : (w : World) (records items : List StoreRecord) → Every IsNameless items → AreMoves (config_of records) items → Stays w records
    → Walks (records_steps (config_of records) items) w (records ++ items)
walk w records [] n m h = nothing w records h
walk w records (item ∷ items) n m h =
    let first : Walks (record_steps (config_of records) item) w (records ++ item ∷ []) = one w records item n.0 m.0 h in
    let v : World = after_all w (record_steps (config_of records) item) in
    let same : config_of (records ++ item ∷ []) ≡ changed (config_of records) item = config_push records item in
    let rest : Walks (records_steps (config_of (records ++ item ∷ [])) items) v ((records ++ item ∷ []) ++ items) =
    walk v (records ++ item ∷ []) items n.1 (subst (λ (c : Config). AreMoves c items) (sym same) m.1) first.stays in
    join (record_steps (config_of records) item) (records_steps (changed (config_of records) item) items) w (records ++ item ∷ items) first.allowed
    (subst (λ (c : Config). Walks (records_steps c items) v (records ++ item ∷ items)) same
    (subst (λ rs. Walks (records_steps (config_of (records ++ item ∷ [])) items) v rs) (append_assoc records (item ∷ []) items) rest))
