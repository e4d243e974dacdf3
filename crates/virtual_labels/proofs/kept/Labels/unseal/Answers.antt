-- A key that is tried is one key more; another one is passed.
use Rattle.std.proofs.Common.{◌≡◌, ℕ, List, length, take, refl, sym, subst, ap, ◌∙◌, arith}
use Rattle.std.proofs.lemmas.List.{length_push}
use Rattle.kept_keys.specs.Bound.{fitting_keys}
use Rattle.mesh_base.specs.declared.keys.UpperKey.{UpperKey}
use Rattle.upper_transport.proofs.Fitting.{one_passed, one_tried}
use Rattle.virtual_labels.specs.Search.{IsSearched}
use Rattle.virtual_labels.proofs.Search.{none_searched}
use Rattle.virtual_labels.proofs.kept.Labels.unseal.Goals as goal
use Rattle.virtual_labels.proofs.kept.Labels.unseal.Goals.{then-fits, else-fits}

pub loop-key-init : goal.loop-key-init
loop-key-init c =
    let all : c.len.result ≡ length c.args.self.now = c.len.ensures.value ∙ ap (λ (labels : List (List ℕ)). length labels) c.self.view_is in
    record {
      place = refl;
      few = omega arith;
      limit = omega (arith, all);
      found = (all, (none_searched c.args.self.now c.args.f.now c.args.upper.now).1);
    }

pub loop-key-preserved : goal.loop-key-preserved
loop-key-preserved c = elim c.if-fits.branch [
  | then-fits w ↦
      let keys = c.args.keys.now in
      let i = c.loop-key.key-index in
      let front = fitting_keys c.args.net c.args.aid (take i keys) in
      let more = one_tried c.args.net c.args.aid keys i c.key-item.result c.loop-key-test.true c.key-item.is (sym w.if-fits.ensures.value) in
      record {
        place = rw w.at-is (omega (arith, ap length more, length_push front c.key-item.result.key, c.loop-key.invariant.place));
        few = rw w.at-is (omega (arith, c.loop-key.invariant.few));
        limit = rw w.search-is w.with_key-search.ensures.limit;
        found =
            rw w.search-is
            (subst (λ (ks : List UpperKey). IsSearched ks c.args.self.now c.args.f.now c.args.upper.now w.with_key-search.result) (sym more)
            (w.with_key-search.ensures.value front (sym c.loop-key.invariant.place) c.loop-key.invariant.found));
      }
  | else-fits w ↦
      let passed = one_passed c.args.net c.args.aid c.args.keys.now c.loop-key.key-index c.key-item.result c.loop-key-test.true c.key-item.is (sym w.if-fits.ensures.value) in
      record {
        place = rw (w.at-is, passed) c.loop-key.invariant.place;
        few = rw w.at-is (omega (arith, c.loop-key.invariant.few));
        limit = rw w.search-is c.loop-key.invariant.limit;
        found =
            rw w.search-is (subst (λ (ks : List UpperKey). IsSearched ks c.args.self.now c.args.f.now c.args.upper.now c.loop-key.search) (sym passed) c.loop-key.invariant.found);
      }
]
