-- What is found so far is what the keys tried so far find, and they are as many as the place says.
use Rattle.std.proofs.Common.{◌≡◌, ◌≤◌, length, take}
use Rattle.kept_keys.specs.Bound.{fitting_keys}
use Rattle.virtual_labels.specs.Search.{IsSearched}
use Rattle.virtual_labels.proofs.kept.Labels.unseal.Given as goal

abbrev pub invariant-loop-key : goal.invariant-loop-key
invariant-loop-key l = record {
  place : l.at ≡ length (fitting_keys l.net l.aid (take l.key-index l.keys));
  few : l.at ≤ l.key-index;
  limit : l.search.limit ≤ length l.self;
  found : IsSearched (fitting_keys l.net l.aid (take l.key-index l.keys)) l.self l.f l.upper l.search;
}
