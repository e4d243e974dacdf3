-- What a line says to the life that is there, and what comes of it.
use Rattle.std.proofs.Common.{◌≡◌, ◌∙◌, ℕ, ◌+◌, ◌<◌, ◌≤◌, Bool, false, List, [], ◌∷◌, ◌++◌, length, Vec, Global, Option, Some, None, map, sym, ap, subst, refl, arith}
use Rattle.std.proofs.lemmas.List.{get_or-map, length-map}
use Rattle.std.proofs.lemmas.List.Elements.{All-map}
use Rattle.std.specs.Prelude.{All, IsSomeAnd}
use Rattle.event_definitions.specs.Role.{Role}
use Rattle.file_flash.specs.Handed.{IsHandedOut}
use Rattle.file_flash.specs.Noted.{AreFronts, AreOnChip, Put, octets_given, written}
use Rattle.flash_model.specs.Chip.{Chip}
use Rattle.live_lines.specs.Saying.{line_says, phase_of}
use Rattle.live_lines.specs.declared.saying.Saying.{Saying}
use Rattle.live_lines.specs.declared.saying.Saying.TheVariants as S
use Rattle.mesh_node.specs.Held.{HasLived, HeldView}
use Rattle.mesh_node.specs.Told.{PhaseDid}
use Rattle.mesh_types.specs.declared.events.Event.{Event}
use Rattle.node_bearer.specs.Did.{AreEvents}
use Rattle.script_definitions.specs.declared.line.ScriptLine.{ScriptLine}
use Rattle.called_node.specs.Called.{CalledView, HasStory, IsBegun, IsGiven, IsLineDone, IsPhaseDone, IsSaid, IsTaken}
use Rattle.called_node.proofs.Calling.{fronts_handed, moment_now, none_counted}

abbrev or : {T : Type 0} → Option T → T → T
or None d = d
or (Some x) d = x

some_same : {T : Type 0} (a b : T) → Some a ≡ Some b → a ≡ b
some_same a b e = ap (λ o. or o a) e

module _ {F : Type 0} where
  found : (o : Option (HeldView F)) (n : ℕ) → IsSomeAnd o (λ life. (life.node.machine.closed ≡ false) × (n ≡ life.node.machine.elements))
      → (life : HeldView F) × (o ≡ Some life) × (life.node.machine.closed ≡ false) × (n ≡ life.node.machine.elements)
  found (Some life) n h = (life, refl, h.0, h.1)
  found None n h = absurd h

  gone : {A : Type 0} (life : HeldView F) → Some life ≡ None → A
  gone life e = absurd cc

  -- a phase is given to a life that is there
  pub is_there : (text : List ℕ) (now : CalledView F) (lists : List (List Event)) → IsGiven text now lists → now.life ≡ None → ⊥
  is_there text now lists g none = gone g.said.life (sym g.said.is ∙ none)

  pub said_is : (text : List ℕ) (now : CalledView F) (n : ℕ) (says : Saying)
      → IsSomeAnd now.life (λ life. (life.node.machine.closed ≡ false) × (n ≡ life.node.machine.elements)) → says ≡ line_says 1 n text → IsTaken now
      → IsSaid text now says
  said_is text now n says has is taken =
      let f = found now.life n has in
      record { life = f.0; is = f.1; usable = f.2; value = ap (λ (k : ℕ). line_says 1 k text) (sym f.3) ∙ sym is; taken = taken }

  pub given_is : (text : List ℕ) (now : CalledView F) (n : ℕ) (line : ScriptLine) (lists : List (Vec Event Global))
      → IsSomeAnd now.life (λ life. (life.node.machine.closed ≡ false) × (n ≡ life.node.machine.elements)) → S.Happens line ≡ line_says 1 n text
      → IsTaken now → map (λ v. v.items) lists ≡ phase_of 1 line → All (λ v. AreEvents n v.items) lists → IsGiven text now (map (λ v. v.items) lists)
  given_is text now n line lists has is taken are fits =
      let f = found now.life n has in
      record {
        line = line;
        said = record { life = f.0; is = f.1; usable = f.2; value = ap (λ (k : ℕ). line_says 1 k text) (sym f.3) ∙ sym is; taken = taken };
        lists_are = are;
        fits = subst (λ (k : ℕ). All (AreEvents k) (map (λ v. v.items) lists)) f.3 (All-map (AreEvents n) (λ v. v.items) lists fits);
      }

  pub same_life : (text : List ℕ) (now : CalledView F) (lists : List (List Event)) (life : HeldView F) (g : IsGiven text now lists)
      → now.life ≡ Some life → g.said.life ≡ life
  same_life text now lists life g is = some_same g.said.life life (sym g.said.is ∙ is)

  -- it has one list, since the node has one bearer
  pub one_list : (text : List ℕ) (now : CalledView F) (lists : List (Vec Event Global)) → IsGiven text now (map (λ v. v.items) lists) → length lists ≡ 1
  one_list text now lists g = sym (length-map lists (λ v. v.items)) ∙ ap (λ (l : List (List Event)). length l) g.lists_are

  pub events_again : (text : List ℕ) (now : CalledView F) (lists : List (Vec Event Global)) (life : HeldView F)
      → IsGiven text now (map (λ v. v.items) lists) → now.life ≡ Some life → All (λ v. AreEvents life.node.machine.elements v.items) lists
  events_again text now lists life g is =
      let fits : All (AreEvents life.node.machine.elements) (map (λ v. v.items) lists) =
      subst (λ (h : HeldView F). All (AreEvents h.node.machine.elements) (map (λ v. v.items) lists))
      (same_life text now (map (λ v. v.items) lists) life g is) g.fits in
      λ k d l. subst (AreEvents life.node.machine.elements) (get_or-map (λ v. v.items) lists k d d.items l)
      (fits k d.items (omega (arith, length-map lists (λ v. v.items))))

module _ {F : Type 0} (role : Role) (image : List ℕ → Type 0) (chip : F → Chip) where
  -- a life at its beginning, whose first writes were taken
  pub begun_story : (old new : HeldView F) → HasLived role image chip old [] []
      → ((phases : List (List (List Event))) (did : List PhaseDid) → HasLived role image chip old phases did → HasLived role image chip new phases did)
      → HasStory role image chip new
  begun_story old new begins held = ∣ record { phases = []; did = []; lived = held [] [] begins } ∣₁

module _ {F : Type 0} (role : Role) (image : List ℕ → Type 0) (chip : F → Chip) (waiting : F → Option (List Put)) where
  pub line_done : (text : List ℕ) (old new : CalledView F) (lists : List (List Event)) (life behind : HeldView F) (writes : List Put) (erases : List Bool) (report : List ℕ)
      → IsGiven text old lists → old.life ≡ Some life → new ≡ record { life = Some behind; writes = writes; erases = erases; report = report }
      → IsPhaseDone role image chip waiting lists life behind writes report → IsLineDone role image chip waiting text old new
  line_done text old new lists life behind writes erases report g is now done = record {
    before = life;
    behind = behind;
    line = g.line;
    was = is;
    is = ap (λ (n : CalledView F). n.life) now;
    says = subst (λ (h : HeldView F). line_says 1 h.node.machine.elements text ≡ S.Happens g.line) (same_life text old lists life g is) g.said.value;
    done = subst (λ (ls : List (List Event)). IsPhaseDone role image chip waiting ls life behind new.writes new.report) g.lists_are
        (subst (λ (n : CalledView F). IsPhaseDone role image chip waiting lists life behind n.writes n.report) (sym now) done);
    no_writes = g.said.taken.writes;
    no_report = g.said.taken.report;
  }

  -- a life at its beginning, whose first writes were taken
  pub begun_is : (life begun : HeldView F) (writes : List Put) (erases : List Bool) (now : CalledView F)
      → now ≡ record { life = Some begun; writes = writes; erases = erases; report = [] } → life.node.machine.closed ≡ false → HasLived role image chip life [] []
      → ((phases : List (List (List Event))) (did : List PhaseDid) → HasLived role image chip life phases did → HasLived role image chip begun phases did)
      → IsHandedOut (chip life.node.flash) (chip begun.node.flash) → begun ≡ record life { node = record life.node { flash = begun.node.flash } }
      → Some writes ≡ waiting life.node.flash → waiting begun.node.flash ≡ Some []
      → written writes (chip life.node.flash).setting.saved ≡ (chip life.node.flash).now
      → AreOnChip writes (chip life.node.flash).setting.saved
      → AreFronts writes (chip life.node.flash).setting.saved ((chip life.node.flash).since (chip life.node.flash).setting.moment)
      → ((chip life.node.flash).changes < 4294967295 → (chip life.node.flash).setting.called + length writes ≤ (chip life.node.flash).changes)
      → ((chip life.node.flash).octets < 4294967295 → (chip life.node.flash).setting.programmed + octets_given writes ≤ (chip life.node.flash).octets)
      → IsBegun role image chip waiting life now
  begun_is life begun writes erases now is usable begins held handed frame noted none makes kinds fronts few lean = record {
    begun = begun;
    is = ap (λ (n : CalledView F). n.life) is;
    lived = held [] [] begins;
    usable = ap (λ (h : HeldView F). h.node.machine.closed) frame ∙ usable;
    start = ap (λ (h : HeldView F). h.node.start) frame;
    noted = ap (λ (n : CalledView F). Some n.writes) is ∙ noted;
    none = none;
    writes_are = ap (λ (n : CalledView F). written n.writes (chip life.node.flash).setting.saved) is ∙ makes ∙ sym handed.now;
    saved = ap (λ s. s.saved) handed.setting ∙ sym handed.now;
    on_chip = subst (λ (n : CalledView F). AreOnChip n.writes (chip life.node.flash).setting.saved) (sym is) kinds;
    fronts = subst (λ (n : CalledView F). AreFronts n.writes (chip life.node.flash).setting.saved ((chip begun.node.flash).since (chip life.node.flash).setting.moment)) (sym is)
        (fronts_handed writes _ _ (chip life.node.flash) (chip begun.node.flash) handed fronts);
    moment = moment_now (chip life.node.flash) (chip begun.node.flash) handed;
    few = λ less.
        let size : length now.writes ≡ length writes = ap (λ (n : CalledView F). length n.writes) is in
        omega (arith, few (omega (arith, handed.changes, less)), size, handed.changes);
    lean = λ less.
        let size : octets_given now.writes ≡ octets_given writes = ap (λ (n : CalledView F). octets_given n.writes) is in
        omega (arith, lean (omega (arith, handed.octets, less)), size, handed.octets);
    counted = none_counted chip life begun handed;
    no_report = ap (λ (n : CalledView F). n.report) is;
  }
