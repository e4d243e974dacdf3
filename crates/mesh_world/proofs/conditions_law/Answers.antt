use Rattle.std.proofs.Common.{◌<◌, inl, inr, refl, sym, ◌∙◌, arith, lit<, lit≤, ap, length-append, length, ◌++◌, ◌∷◌, []}
use Rattle.std.proofs.lemmas.List.{get_or_append_left, get_or_push}
use Rattle.mesh_world.specs.World.{Sealing}
use Rattle.mesh_world.specs.Examples.{first_pair, message}
use Rattle.mesh_world.proofs.conditions_law.Goals as goal

pub returns-clause-seal_unused : goal.returns-clause-seal_unused
returns-clause-seal_unused c w s g k d within is_of =
    let at_k = get_or_append_left w.seals (s ∷ []) d k within in
    let at_end = get_or_push w.seals s d (length w.seals) refl in
    let beyond : length w.seals < length (w.seals ++ s ∷ []) = omega (arith, length-append w.seals (s ∷ [])) in
    g.seals_once k (length w.seals) d within beyond (
      ap (λ (t : Sealing). t.layer) at_end ∙ sym (is_of.0) ∙ ap (λ (t : Sealing). t.layer) (sym at_k),
      ap (λ (t : Sealing). t.pair) at_end ∙ sym (is_of.1) ∙ ap (λ (t : Sealing). t.pair) (sym at_k),
    )

pub returns-clause-accept_above : goal.returns-clause-accept_above
returns-clause-accept_above c = (((inl refl, tt), (refl, tt)), λ g. g.pending_new 0 message (lit< tt) refl)

pub returns-clause-accept_read : goal.returns-clause-accept_read
returns-clause-accept_read c = (((inl refl, tt), (refl, ((lit≤ tt, lit≤ tt), (refl, tt)))), λ g. g.pending_new 0 message (lit< tt) refl)

pub returns-clause-expire : goal.returns-clause-expire
returns-clause-expire c =
    (((inl refl, tt), (refl, tt)), λ g. elim (g.delivered_spent 0 message (lit< tt)) [ inl expired ↦ cc | inr none ↦ elim none [ ] ])

pub returns-clause-deliver : goal.returns-clause-deliver
returns-clause-deliver c = (((inl refl, tt), (refl, tt)), λ g. g.delivered_once 0 1 message (lit< tt) (lit< tt) refl)

pub returns-clause-reserve_current : goal.returns-clause-reserve_current
returns-clause-reserve_current c =
    (((inl refl, tt), (refl, ((lit≤ tt, lit≤ tt), (refl, tt)))), λ g. elim (g.delivered_spent 0 message (lit< tt)) [ inl expired ↦ cc | inr none ↦ elim none [ ] ])

pub returns-clause-cut_kept : goal.returns-clause-cut_kept
returns-clause-cut_kept c =
    (((lit≤ tt, lit≤ tt), ((lit≤ tt, lit≤ tt), ((lit< tt, (lit< tt, lit< tt)), tt))), λ g. let below = g.drawn_below 0 first_pair (lit< tt) in omega arith)
