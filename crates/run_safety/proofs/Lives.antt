-- A life leaves records that only rose, and no name is accepted twice over all lives.
use Rattle.std.proofs.Common.{◌≡◌, List, [], ◌∷◌, ◌++◌, map, refl, ap, sym, subst, ◌∙◌, append_assoc, append-nil}
use Rattle.std.specs.List.{cons_option, filter_map, flat_map}
use Rattle.std.proofs.lemmas.List.Elements.{recursion_from_All}
use Rattle.mesh_base.specs.declared.iv_state.IvState.{IvState}
use Rattle.mesh_base.specs.declared.pair.Name.{Name}
use Rattle.mesh_types.specs.declared.history.Entry.{Entry}
use Rattle.record_types.specs.declared.records.StoreRecord.{StoreRecord}
use Rattle.store_definitions.specs.Config.{config_of}
use Rattle.store_definitions.specs.Entries.{entry_of, kept_of}
use Rattle.event_definitions.specs.Handling.{records_left}
use Rattle.event_definitions.specs.History.{Past, Told}
use Rattle.event_definitions.specs.Role.{Role}
use Rattle.run_definitions.specs.Order.{Step}
use Rattle.report_definitions.specs.Record.{Life, LifeOver, Run, first_over}
use Rattle.run_definitions.specs.RunOf.{Script, past_at_end}
use Rattle.run_safety.specs.Rules.{HasFitNumbers, LifeBy, LivesBy, MayOutlast, RunBy, enough_rules, nothing_more, one_filled, some_stored}
use Rattle.run_safety.specs.SafeRole.{IsSafeRole, Marked, RiseAll}
use Rattle.store_definitions.specs.Numbers.{filled}
use Rattle.run_definitions.specs.Uses.{AtMostOnce, delivered, life_delivered}
use Rattle.event_definitions.specs.Answers.{accepted}
use Rattle.run_safety.proofs.Handled.{marked, rise_all, rise_filled, rise_take, rises_fill}
use Rattle.run_safety.proofs.Lists.{pairs_from_apart}
use Rattle.event_definitions.proofs.Each.{every_front, every_map}
use Rattle.run_safety.proofs.Names.{AllBlocked, Differ, InRange, Once, blocked_all, filled_is, handled_rise, names, once_handled}
use Rattle.run_safety.proofs.Rising.{Blocked, IsBlocked, Later, Rise, blocked_entry, entry_blocked, later_after, later_kept, rise_after, rise_later}

-- what outlasts a cut only rises, too
outlasting_rises : (role : Role) → IsSafeRole role → (past : Past) (more : List StoreRecord)
    → MayOutlast role past more → Marked (config_of past.records) → RiseAll (config_of past.records) more
outlasting_rises role safe past _ nothing_more m = tt
outlasting_rises role safe past _ (some_stored n event insight) m =
    rise_take n (config_of past.records) _ (safe.rises past event insight m)
outlasting_rises role safe past _ one_filled m = (rises_fill (config_of past.records), tt)

-- The parts of a life.
module _ (role : Role) (safe : IsSafeRole role) (plan : List Step) (over : List StoreRecord) (l : Life) (next : List StoreRecord) (h : LifeBy enough_rules role plan over l next) where
  abbrev left : List StoreRecord
  left = records_left role over [] h.told

  abbrev at_end : List StoreRecord
  at_end = filled l.refills left

  pub end_in_range : InRange (at_end ++ h.leaves.more)
  end_in_range = recursion_from_All HasFitNumbers (at_end ++ h.leaves.more) h.leaves.ranges

  filled_in_range : InRange at_end
  filled_in_range = every_front HasFitNumbers at_end h.leaves.more end_in_range

  pub left_in_range : InRange left
  left_in_range =
      let (rest, e) = filled_is l.refills left in
      every_front HasFitNumbers left rest (subst InRange e filled_in_range)

  more_rise : Rise at_end (at_end ++ h.leaves.more)
  more_rise = rise_all h.leaves.more at_end (outlasting_rises role safe (past_at_end role over l h.told) h.leaves.more h.leaves.outlasts (marked at_end filled_in_range))

  pub life_rises : Rise over (at_end ++ h.leaves.more)
  life_rises = rise_after more_rise (rise_after (rise_filled l.refills left) (handled_rise role safe over [] h.told h.handled left_in_range))

  -- what is left says nothing less
  pub life_later : Later (config_of over) (config_of next)
  life_later =
      later_after (config_of over) (config_of (at_end ++ h.leaves.more)) (config_of next) (rise_later life_rises)
      (later_kept _ _ h.leaves.alike.unicast h.leaves.alike.elements h.leaves.alike.iv h.leaves.alike.mark)

  still_blocked : (n : Name) → IsBlocked n (at_end ++ h.leaves.more) → IsBlocked n next
  still_blocked n b =
      let all : List StoreRecord = at_end ++ h.leaves.more in
      let by_entry : Blocked n (config_of all).iv.current (entry_of all n.src.0) = blocked_entry n _ (kept_of all n.src.0) b in
      let moved : Blocked n (config_of next).iv.current (entry_of all n.src.0) =
      subst (λ (s : IvState). Blocked n s.current (entry_of all n.src.0)) (sym h.leaves.alike.iv) by_entry in
      entry_blocked n _ (kept_of next n.src.0) (subst (Blocked n (config_of next).iv.current) (sym (h.leaves.alike.entries n.src.0)) moved)

  told_names : names h.told ≡ life_delivered l
  told_names = names_map h.told ∙ ap (filter_map (λ (e : Entry). accepted e.answer)) h.entries
    where
      names_map : (ts : List Told) → names ts ≡ filter_map (λ (e : Entry). accepted e.answer) (map (λ t. t.entry) ts)
      names_map [] = refl
      names_map (t ∷ ts) = ap (cons_option (accepted t.entry.answer)) (names_map ts)

  pub life_once : (ns : List Name) → Once ns over → Once (ns ++ life_delivered l) next
  life_once ns o =
      let handled : Once (ns ++ names h.told) left = once_handled role safe over [] h.told ns h.handled left_in_range o in
      let ended : AllBlocked (ns ++ names h.told) (at_end ++ h.leaves.more) =
      blocked_all (ns ++ names h.told) (rise_after more_rise (rise_filled l.refills left)) handled.blocked in
      subst (λ k. Once (ns ++ k) next) told_names
      (record {
        differ = handled.differ;
        blocked = every_map (λ n. IsBlocked n (at_end ++ h.leaves.more)) (λ n. IsBlocked n next) still_blocked (ns ++ names h.told) ended;
      })

lives_differ : (role : Role) → IsSafeRole role → (plans : List (List Step)) (lives : List LifeOver) (last : List StoreRecord) (ns : List Name)
    → LivesBy enough_rules role plans lives last → Once ns (first_over lives last) → Differ (ns ++ flat_map (λ x. life_delivered x.life) lives)
lives_differ role safe [] [] last ns h o = rw append-nil o.differ
lives_differ role safe [] (x ∷ xs) last ns h o = absurd h
lives_differ role safe (plan ∷ plans) [] last ns h o = absurd h
lives_differ role safe (plan ∷ plans) (x ∷ xs) last ns h o =
    let one : Once (ns ++ life_delivered x.life) (first_over xs last) = life_once role safe plan x.over x.life (first_over xs last) h.0 ns o in
    rw (← append_assoc) (lives_differ role safe plans xs last (ns ++ life_delivered x.life) h.1 one)

pub at_most_once : (role : Role) → IsSafeRole role → (s : Script) (r : Run) → RunBy enough_rules role s r → AtMostOnce (delivered r)
at_most_once role safe s r h =
    pairs_from_apart _ (delivered r) (lives_differ role safe s.lives r.lives r.last [] h.lives (record { differ = tt; blocked = tt }))
