-- There is room for one more address, which is the two octets in front.
use Rattle.std.proofs.Common.{◌≡◌, ◌+◌, ◌*◌, ◌<◌, ◌≤◌, ◌^◌, ◌∷◌, [], ◌++◌, length, drop, get_or, ◌∙◌, arith, length-append, length-drop}
use Rattle.std.proofs.lemmas.List.{get_or-drop}
use Rattle.std.proofs.lemmas.List.Elements.{All-push}
use Rattle.mesh_base.specs.declared.address.Address.{Address}
use Rattle.upper_transport.proofs.ControlRows.{addresses_turn, ok_then, two_front}
use Rattle.upper_transport.proofs.control_reading.addresses_of.Goals as goal

pub loop-rest-preserved : goal.loop-rest-preserved
loop-rest-preserved c =
    let invariant = c.loop-rest.invariant in
    let rest = c.loop-rest.rest.now in
    let a : Address = record { 0 = c.read_u16.result } in
    let more : 2 ≤ length rest = omega (arith, c.loop-rest-test.true) in
    let room : length c.loop-rest.addresses < 5 = omega (arith, invariant.count, c.requires.most) in
    let pushed : c.push.new.self ≡ c.loop-rest.addresses ++ a ∷ [] = ok_then c.push.result _ (c.push.ensures.variant.1 room) c.push.ensures.ok in
    let back : c.split_at.result.1.now ≡ drop 2 rest = c.split_at.ensures.back in
    let number : c.read_u16.result ≡ get_or rest 0 0 * 256 + get_or rest 1 0 =
    omega (arith, rw (c.split_at.ensures.front, two_front rest more) at c.read_u16.ensures) in
    rw (pushed, back) (record {
      value = addresses_turn c.loop-rest.addresses c.read_u16.result rest more invariant.octets number ∙ invariant.value;
      widths = All-push (λ (b : Address). b.0 < 2 ^ 16) c.loop-rest.addresses a invariant.widths (omega (arith, number, invariant.octets 0, invariant.octets 1));
      octets = λ i. rw get_or-drop (invariant.octets (2 + i));
      count = omega (arith, invariant.count, length-append c.loop-rest.addresses (a ∷ []), length-drop 2 rest);
      even = omega (arith, invariant.even, length-drop 2 rest);
    })
