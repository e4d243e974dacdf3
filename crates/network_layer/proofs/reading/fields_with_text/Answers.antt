-- A PDU and its three parts.
use Rattle.std.proofs.Common.{◌≡◌, ◌∙◌, refl, sym, subst, arith}
use Rattle.std.proofs.lemmas.Option.{IfSome_then}
use Rattle.layer_definitions.proofs.NetworkLaws.{opened_header}
use Rattle.network_layer.specs.Opening.{IsSealedAs}
use Rattle.network_layer.proofs.Openings.{nid_of, sealed_of_text, text_of_sealed}
use Rattle.network_layer.proofs.reading.fields_with_text.Goals as goal

pub returns-then-octets-nid-clause-none : goal.returns-then-octets-nid-clause-none
returns-then-octets-nid-clause-none c = λ _ f h.
    c.if-octets-nid.true (nid_of c.args.m.now c.args.iv c.args.octets.now f c.requires.ivi h ∙ sym c.nid.ensures.value)

pub returns-clause-some : goal.returns-clause-some
returns-clause-some c =
    let header : c.masked-header.result ≡ opened_header c.args.m.now c.args.iv c.args.octets.now =
    rw (c.masked-header.ensures.value, c.mask-mask.ensures.value, c.split_at.ensures.back) refl in
    IfSome_then c.fields_sealed_as.result c.fields_sealed_as.ensures.some (λ f h.
    text_of_sealed c.args.m.now c.args.iv c.args.octets.now f (omega (arith, c.requires.least)) c.requires.ivi (c.if-octets-nid.false ∙ c.nid.ensures.value)
    (subst (λ s. IsSealedAs c.args.m.now c.args.iv (opened_header c.args.m.now c.args.iv c.args.octets.now) s f) c.split_at.ensures.back
    (subst (λ x. IsSealedAs c.args.m.now c.args.iv x c.split_at.result.1.now f) header h)))

pub returns-clause-none : goal.returns-clause-none
returns-clause-none c = λ none f h.
    let header : c.masked-header.result ≡ opened_header c.args.m.now c.args.iv c.args.octets.now =
    rw (c.masked-header.ensures.value, c.mask-mask.ensures.value, c.split_at.ensures.back) refl in
    c.fields_sealed_as.ensures.none none f
    (subst (λ s. IsSealedAs c.args.m.now c.args.iv c.masked-header.result s f) (sym c.split_at.ensures.back)
    (rw header (sealed_of_text c.args.m.now c.args.iv c.args.octets.now f h)))
