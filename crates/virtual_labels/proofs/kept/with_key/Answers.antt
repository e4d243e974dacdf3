use Rattle.std.proofs.Common.{refl, arith}
use Rattle.virtual_labels.proofs.Search.{found_before, found_earlier, front_addresses, in_front}
use Rattle.virtual_labels.proofs.kept.with_key.Goals as goal

pub open_labelled-requires : goal.open_labelled-requires
open_labelled-requires c = record {
  labels = omega (arith, c.as_slice.ensures.length, c.split_at.ensures.front_len, c.requires.limit);
  addresses =
      rw (c.split_at-2.ensures.front, c.split_at.ensures.front, c.as_slice.ensures.value)
      (front_addresses c.args.labels.now c.addresses.result.now c.args.search.limit c.addresses.ensures.value);
  upper = c.requires.upper;
}

pub returns-in-Some-clause-limit : goal.returns-in-Some-clause-limit
returns-in-Some-clause-limit c =
    let new = rw (c.split_at.ensures.front, c.as_slice.ensures.value) at c.in-Some.ensures.some in
    let here = in_front c.args.labels.now c.args.search.limit c.in-Some.opening.label new.label new.label_is in
    omega (arith, here.0, c.requires.limit)

pub returns-in-Some-clause-value : goal.returns-in-Some-clause-value
returns-in-Some-clause-value c = λ keys few h.
    found_earlier keys c.args.key.now c.args.labels.now c.args.f.now c.args.upper.now c.args.search.limit c.args.at c.args.search.found _ few h
    (rw (c.split_at.ensures.front, c.as_slice.ensures.value) at c.in-Some.ensures.some) refl

pub returns-in-None-clause-value : goal.returns-in-None-clause-value
returns-in-None-clause-value c = λ keys few h.
    found_before keys c.args.key.now c.args.labels.now c.args.f.now c.args.upper.now c.args.search.limit c.args.search.found h
    (rw (c.split_at.ensures.front, c.as_slice.ensures.value) at (c.in-None.ensures.none refl))
