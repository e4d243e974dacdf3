use Rattle.std.proofs.Common.{◌≡◌, ap, refl, sym, ◌∙◌, drop, length, take, true, arith}
use Rattle.std.proofs.lemmas.Slice.Eq.{bytes_eq-Decides}
use Rattle.cipher_definitions.specs.Kdf.{network_id}
use Rattle.layer_definitions.specs.Beacon.{beacon_text}
use Rattle.net_beacon.proofs.Values.{id_at}
use Rattle.net_beacon.proofs.Rows.{read_by_one, unread_by_one}
use Rattle.net_beacon.proofs.Texts.{length-beacon_text, same_octets}
use Rattle.net_beacon.proofs.kept.BeaconKey.read.Goals as goal

pub returns-then-bytes-ne22-clause-none : goal.returns-then-bytes-ne22-clause-none
returns-then-bytes-ne22-clause-none c = λ _.
    unread_by_one _ _ (λ f iv r. c.if-bytes-ne22.true (sym (ap (λ l. length l) r.text) ∙ length-beacon_text c.args.self.now f iv))

pub returns-clause-some : goal.returns-clause-some
returns-clause-some c =
    let same : beacon_text c.args.self.now c.fields_of-flags.result.0 c.fields_of-flags.result.1 ≡ c.args.bytes.now =
    sym c.write.ensures.value ∙ sym c.as_slice.ensures ∙ same_octets _ _ c.ne.result c.ne.ensures c.if-ne.false in
    read_by_one _ _ _ (record {
      flags = c.fields_of-flags.result.0;
      reads = record { flags_width = omega (arith, c.fields_of-flags.type_inv); iv_width = omega (arith, c.fields_of-flags.type_inv); text = same };
      beacon = refl;
    })

pub returns-then-not-has_id-clause-none : goal.returns-then-not-has_id-clause-none
returns-then-not-has_id-clause-none c = λ _.
    unread_by_one _ _ (λ f iv r.
    let id : c.self.inside.id ≡ network_id c.args.self.now = c.self.invariant.0 ∙ ap network_id c.self.view_is in
    let same : take 8 (drop 2 c.args.bytes.now) ≡ c.self.inside.id = id_at c.args.self.now c.args.bytes.now f iv r ∙ sym id in
    let has : c.has_id.result ≡ true = c.has_id.ensures ∙ (bytes_eq-Decides _ _).1 (sym same) in
    absurd (cc))
