use Rattle.std.proofs.Common.{◌∙◌, [], ◌∷◌, refl, sym, ap}
use Rattle.std.specs.List.{flat_map}
use Rattle.node_snapshot.specs.Parts.{net_records, app_records, bind_records, sub_records, label_records, replay_records, publish_records}
use Rattle.node_snapshot.specs.Passing.{passed}
use Rattle.node_snapshot.proofs.Passing.{found, handed, past}
use Rattle.node_snapshot.proofs.Rests.{part2, part3, part4, part5, part6, part7, part8, part9, part10, part11, front1, front2, front3, front4, front5, front6, front7, front8, front9, front10, stops3, stops4, stops5, stops6, stops7, stops8, stops9, stops10, stops11, ends}
use Rattle.node_snapshot.proofs.listing.pass_all.Goals as goal

pub returns-in_err-left3 : goal.returns-in_err-left3
returns-in_err-left3 c =
    let p = c.args.p.now in
    let n = c.args.place in
    let b2 = past (front1 p) (part2 p) _ n c.in_ok-left1.left1 c.in_ok-left2.left2 (ap (λ r. r ∷ []) c.numbers_of.ensures) (sym c.in_ok-left1.ensures.value) c.in_ok-left2.ensures.value in
    record {
      value = handed c.from_residual-in_err-left3.result c.in_err-left3.field-0.0 c.from_residual-in_err-left3.ensures.1
          ∙ sym (stops3 p n c.in_err-left3.field-0.0 (found (front2 p) (part3 p) _ n c.in_ok-left2.left2 c.in_err-left3.field-0.0 (ap (flat_map net_records) c.as_slice.ensures.value) b2 c.in_err-left3.ensures.value));
    }

pub returns-in_err-left4 : goal.returns-in_err-left4
returns-in_err-left4 c =
    let p = c.args.p.now in
    let n = c.args.place in
    let b2 = past (front1 p) (part2 p) _ n c.in_ok-left1.left1 c.in_ok-left2.left2 (ap (λ r. r ∷ []) c.numbers_of.ensures) (sym c.in_ok-left1.ensures.value) c.in_ok-left2.ensures.value in
    let b3 = past (front2 p) (part3 p) _ n c.in_ok-left2.left2 c.in_ok-left3.left3 (ap (flat_map net_records) c.as_slice.ensures.value) b2 c.in_ok-left3.ensures.value in
    record {
      value = handed c.from_residual-in_err-left4.result c.in_err-left4.field-0.0 c.from_residual-in_err-left4.ensures.1
          ∙ sym (stops4 p n c.in_err-left4.field-0.0 (found (front3 p) (part4 p) _ n c.in_ok-left3.left3 c.in_err-left4.field-0.0 (ap (flat_map app_records) c.as_slice-2.ensures.value) b3 c.in_err-left4.ensures.value));
    }

pub returns-in_err-left5 : goal.returns-in_err-left5
returns-in_err-left5 c =
    let p = c.args.p.now in
    let n = c.args.place in
    let b2 = past (front1 p) (part2 p) _ n c.in_ok-left1.left1 c.in_ok-left2.left2 (ap (λ r. r ∷ []) c.numbers_of.ensures) (sym c.in_ok-left1.ensures.value) c.in_ok-left2.ensures.value in
    let b3 = past (front2 p) (part3 p) _ n c.in_ok-left2.left2 c.in_ok-left3.left3 (ap (flat_map net_records) c.as_slice.ensures.value) b2 c.in_ok-left3.ensures.value in
    let b4 = past (front3 p) (part4 p) _ n c.in_ok-left3.left3 c.in_ok-left4.left4 (ap (flat_map app_records) c.as_slice-2.ensures.value) b3 c.in_ok-left4.ensures.value in
    record {
      value = handed c.from_residual-in_err-left5.result c.in_err-left5.field-0.0 c.from_residual-in_err-left5.ensures.1
          ∙ sym (stops5 p n c.in_err-left5.field-0.0 (found (front4 p) (part5 p) _ n c.in_ok-left4.left4 c.in_err-left5.field-0.0 (ap (flat_map bind_records) c.as_slice-3.ensures.value) b4 c.in_err-left5.ensures.value));
    }

pub returns-in_err-left6 : goal.returns-in_err-left6
returns-in_err-left6 c =
    let p = c.args.p.now in
    let n = c.args.place in
    let b2 = past (front1 p) (part2 p) _ n c.in_ok-left1.left1 c.in_ok-left2.left2 (ap (λ r. r ∷ []) c.numbers_of.ensures) (sym c.in_ok-left1.ensures.value) c.in_ok-left2.ensures.value in
    let b3 = past (front2 p) (part3 p) _ n c.in_ok-left2.left2 c.in_ok-left3.left3 (ap (flat_map net_records) c.as_slice.ensures.value) b2 c.in_ok-left3.ensures.value in
    let b4 = past (front3 p) (part4 p) _ n c.in_ok-left3.left3 c.in_ok-left4.left4 (ap (flat_map app_records) c.as_slice-2.ensures.value) b3 c.in_ok-left4.ensures.value in
    let b5 = past (front4 p) (part5 p) _ n c.in_ok-left4.left4 c.in_ok-left5.left5 (ap (flat_map bind_records) c.as_slice-3.ensures.value) b4 c.in_ok-left5.ensures.value in
    record {
      value = handed c.from_residual-in_err-left6.result c.in_err-left6.field-0.0 c.from_residual-in_err-left6.ensures.1
          ∙ sym (stops6 p n c.in_err-left6.field-0.0 (found (front5 p) (part6 p) _ n c.in_ok-left5.left5 c.in_err-left6.field-0.0 (ap (flat_map sub_records) c.as_slice-4.ensures.value) b5 c.in_err-left6.ensures.value));
    }

pub returns-in_err-left7 : goal.returns-in_err-left7
returns-in_err-left7 c =
    let p = c.args.p.now in
    let n = c.args.place in
    let b2 = past (front1 p) (part2 p) _ n c.in_ok-left1.left1 c.in_ok-left2.left2 (ap (λ r. r ∷ []) c.numbers_of.ensures) (sym c.in_ok-left1.ensures.value) c.in_ok-left2.ensures.value in
    let b3 = past (front2 p) (part3 p) _ n c.in_ok-left2.left2 c.in_ok-left3.left3 (ap (flat_map net_records) c.as_slice.ensures.value) b2 c.in_ok-left3.ensures.value in
    let b4 = past (front3 p) (part4 p) _ n c.in_ok-left3.left3 c.in_ok-left4.left4 (ap (flat_map app_records) c.as_slice-2.ensures.value) b3 c.in_ok-left4.ensures.value in
    let b5 = past (front4 p) (part5 p) _ n c.in_ok-left4.left4 c.in_ok-left5.left5 (ap (flat_map bind_records) c.as_slice-3.ensures.value) b4 c.in_ok-left5.ensures.value in
    let b6 = past (front5 p) (part6 p) _ n c.in_ok-left5.left5 c.in_ok-left6.left6 (ap (flat_map sub_records) c.as_slice-4.ensures.value) b5 c.in_ok-left6.ensures.value in
    record {
      value = handed c.from_residual-in_err-left7.result c.in_err-left7.field-0.0 c.from_residual-in_err-left7.ensures.1
          ∙ sym (stops7 p n c.in_err-left7.field-0.0 (found (front6 p) (part7 p) _ n c.in_ok-left6.left6 c.in_err-left7.field-0.0 (ap (flat_map label_records) c.as_slice-5.ensures.value) b6 c.in_err-left7.ensures.value));
    }

pub returns-in_err-left8 : goal.returns-in_err-left8
returns-in_err-left8 c =
    let p = c.args.p.now in
    let n = c.args.place in
    let b2 = past (front1 p) (part2 p) _ n c.in_ok-left1.left1 c.in_ok-left2.left2 (ap (λ r. r ∷ []) c.numbers_of.ensures) (sym c.in_ok-left1.ensures.value) c.in_ok-left2.ensures.value in
    let b3 = past (front2 p) (part3 p) _ n c.in_ok-left2.left2 c.in_ok-left3.left3 (ap (flat_map net_records) c.as_slice.ensures.value) b2 c.in_ok-left3.ensures.value in
    let b4 = past (front3 p) (part4 p) _ n c.in_ok-left3.left3 c.in_ok-left4.left4 (ap (flat_map app_records) c.as_slice-2.ensures.value) b3 c.in_ok-left4.ensures.value in
    let b5 = past (front4 p) (part5 p) _ n c.in_ok-left4.left4 c.in_ok-left5.left5 (ap (flat_map bind_records) c.as_slice-3.ensures.value) b4 c.in_ok-left5.ensures.value in
    let b6 = past (front5 p) (part6 p) _ n c.in_ok-left5.left5 c.in_ok-left6.left6 (ap (flat_map sub_records) c.as_slice-4.ensures.value) b5 c.in_ok-left6.ensures.value in
    let b7 = past (front6 p) (part7 p) _ n c.in_ok-left6.left6 c.in_ok-left7.left7 (ap (flat_map label_records) c.as_slice-5.ensures.value) b6 c.in_ok-left7.ensures.value in
    record {
      value = handed c.from_residual-in_err-left8.result c.in_err-left8.field-0.0 c.from_residual-in_err-left8.ensures.1
          ∙ sym (stops8 p n c.in_err-left8.field-0.0 (found (front7 p) (part8 p) _ n c.in_ok-left7.left7 c.in_err-left8.field-0.0 refl b7 c.in_err-left8.ensures.value));
    }

pub returns-in_err-left9 : goal.returns-in_err-left9
returns-in_err-left9 c =
    let p = c.args.p.now in
    let n = c.args.place in
    let b2 = past (front1 p) (part2 p) _ n c.in_ok-left1.left1 c.in_ok-left2.left2 (ap (λ r. r ∷ []) c.numbers_of.ensures) (sym c.in_ok-left1.ensures.value) c.in_ok-left2.ensures.value in
    let b3 = past (front2 p) (part3 p) _ n c.in_ok-left2.left2 c.in_ok-left3.left3 (ap (flat_map net_records) c.as_slice.ensures.value) b2 c.in_ok-left3.ensures.value in
    let b4 = past (front3 p) (part4 p) _ n c.in_ok-left3.left3 c.in_ok-left4.left4 (ap (flat_map app_records) c.as_slice-2.ensures.value) b3 c.in_ok-left4.ensures.value in
    let b5 = past (front4 p) (part5 p) _ n c.in_ok-left4.left4 c.in_ok-left5.left5 (ap (flat_map bind_records) c.as_slice-3.ensures.value) b4 c.in_ok-left5.ensures.value in
    let b6 = past (front5 p) (part6 p) _ n c.in_ok-left5.left5 c.in_ok-left6.left6 (ap (flat_map sub_records) c.as_slice-4.ensures.value) b5 c.in_ok-left6.ensures.value in
    let b7 = past (front6 p) (part7 p) _ n c.in_ok-left6.left6 c.in_ok-left7.left7 (ap (flat_map label_records) c.as_slice-5.ensures.value) b6 c.in_ok-left7.ensures.value in
    let b8 = past (front7 p) (part8 p) _ n c.in_ok-left7.left7 c.in_ok-left8.left8 refl b7 c.in_ok-left8.ensures.value in
    record {
      value = handed c.from_residual-in_err-left9.result c.in_err-left9.field-0.0 c.from_residual-in_err-left9.ensures.1
          ∙ sym (stops9 p n c.in_err-left9.field-0.0 (found (front8 p) (part9 p) _ n c.in_ok-left8.left8 c.in_err-left9.field-0.0 refl b8 c.in_err-left9.ensures.value));
    }

pub returns-in_err-left10 : goal.returns-in_err-left10
returns-in_err-left10 c =
    let p = c.args.p.now in
    let n = c.args.place in
    let b2 = past (front1 p) (part2 p) _ n c.in_ok-left1.left1 c.in_ok-left2.left2 (ap (λ r. r ∷ []) c.numbers_of.ensures) (sym c.in_ok-left1.ensures.value) c.in_ok-left2.ensures.value in
    let b3 = past (front2 p) (part3 p) _ n c.in_ok-left2.left2 c.in_ok-left3.left3 (ap (flat_map net_records) c.as_slice.ensures.value) b2 c.in_ok-left3.ensures.value in
    let b4 = past (front3 p) (part4 p) _ n c.in_ok-left3.left3 c.in_ok-left4.left4 (ap (flat_map app_records) c.as_slice-2.ensures.value) b3 c.in_ok-left4.ensures.value in
    let b5 = past (front4 p) (part5 p) _ n c.in_ok-left4.left4 c.in_ok-left5.left5 (ap (flat_map bind_records) c.as_slice-3.ensures.value) b4 c.in_ok-left5.ensures.value in
    let b6 = past (front5 p) (part6 p) _ n c.in_ok-left5.left5 c.in_ok-left6.left6 (ap (flat_map sub_records) c.as_slice-4.ensures.value) b5 c.in_ok-left6.ensures.value in
    let b7 = past (front6 p) (part7 p) _ n c.in_ok-left6.left6 c.in_ok-left7.left7 (ap (flat_map label_records) c.as_slice-5.ensures.value) b6 c.in_ok-left7.ensures.value in
    let b8 = past (front7 p) (part8 p) _ n c.in_ok-left7.left7 c.in_ok-left8.left8 refl b7 c.in_ok-left8.ensures.value in
    let b9 = past (front8 p) (part9 p) _ n c.in_ok-left8.left8 c.in_ok-left9.left9 refl b8 c.in_ok-left9.ensures.value in
    record {
      value = handed c.from_residual-in_err-left10.result c.in_err-left10.field-0.0 c.from_residual-in_err-left10.ensures.1
          ∙ sym (stops10 p n c.in_err-left10.field-0.0 (found (front9 p) (part10 p) _ n c.in_ok-left9.left9 c.in_err-left10.field-0.0 (ap replay_records c.requires.names) b9 c.in_err-left10.ensures.value));
    }

pub returns-in_err-left11 : goal.returns-in_err-left11
returns-in_err-left11 c =
    let p = c.args.p.now in
    let n = c.args.place in
    let b2 = past (front1 p) (part2 p) _ n c.in_ok-left1.left1 c.in_ok-left2.left2 (ap (λ r. r ∷ []) c.numbers_of.ensures) (sym c.in_ok-left1.ensures.value) c.in_ok-left2.ensures.value in
    let b3 = past (front2 p) (part3 p) _ n c.in_ok-left2.left2 c.in_ok-left3.left3 (ap (flat_map net_records) c.as_slice.ensures.value) b2 c.in_ok-left3.ensures.value in
    let b4 = past (front3 p) (part4 p) _ n c.in_ok-left3.left3 c.in_ok-left4.left4 (ap (flat_map app_records) c.as_slice-2.ensures.value) b3 c.in_ok-left4.ensures.value in
    let b5 = past (front4 p) (part5 p) _ n c.in_ok-left4.left4 c.in_ok-left5.left5 (ap (flat_map bind_records) c.as_slice-3.ensures.value) b4 c.in_ok-left5.ensures.value in
    let b6 = past (front5 p) (part6 p) _ n c.in_ok-left5.left5 c.in_ok-left6.left6 (ap (flat_map sub_records) c.as_slice-4.ensures.value) b5 c.in_ok-left6.ensures.value in
    let b7 = past (front6 p) (part7 p) _ n c.in_ok-left6.left6 c.in_ok-left7.left7 (ap (flat_map label_records) c.as_slice-5.ensures.value) b6 c.in_ok-left7.ensures.value in
    let b8 = past (front7 p) (part8 p) _ n c.in_ok-left7.left7 c.in_ok-left8.left8 refl b7 c.in_ok-left8.ensures.value in
    let b9 = past (front8 p) (part9 p) _ n c.in_ok-left8.left8 c.in_ok-left9.left9 refl b8 c.in_ok-left9.ensures.value in
    let b10 = past (front9 p) (part10 p) _ n c.in_ok-left9.left9 c.in_ok-left10.left10 (ap replay_records c.requires.names) b9 c.in_ok-left10.ensures.value in
    record {
      value = handed c.from_residual-in_err-left11.result c.in_err-left11.field-0.0 c.from_residual-in_err-left11.ensures.1
          ∙ sym (stops11 p n c.in_err-left11.field-0.0 (found (front10 p) (part11 p) _ n c.in_ok-left10.left10 c.in_err-left11.field-0.0 refl b10 c.in_err-left11.ensures.value));
    }

pub returns : goal.returns
returns c =
    let p = c.args.p.now in
    let n = c.args.place in
    let b2 = past (front1 p) (part2 p) _ n c.in_ok-left1.left1 c.in_ok-left2.left2 (ap (λ r. r ∷ []) c.numbers_of.ensures) (sym c.in_ok-left1.ensures.value) c.in_ok-left2.ensures.value in
    let b3 = past (front2 p) (part3 p) _ n c.in_ok-left2.left2 c.in_ok-left3.left3 (ap (flat_map net_records) c.as_slice.ensures.value) b2 c.in_ok-left3.ensures.value in
    let b4 = past (front3 p) (part4 p) _ n c.in_ok-left3.left3 c.in_ok-left4.left4 (ap (flat_map app_records) c.as_slice-2.ensures.value) b3 c.in_ok-left4.ensures.value in
    let b5 = past (front4 p) (part5 p) _ n c.in_ok-left4.left4 c.in_ok-left5.left5 (ap (flat_map bind_records) c.as_slice-3.ensures.value) b4 c.in_ok-left5.ensures.value in
    let b6 = past (front5 p) (part6 p) _ n c.in_ok-left5.left5 c.in_ok-left6.left6 (ap (flat_map sub_records) c.as_slice-4.ensures.value) b5 c.in_ok-left6.ensures.value in
    let b7 = past (front6 p) (part7 p) _ n c.in_ok-left6.left6 c.in_ok-left7.left7 (ap (flat_map label_records) c.as_slice-5.ensures.value) b6 c.in_ok-left7.ensures.value in
    let b8 = past (front7 p) (part8 p) _ n c.in_ok-left7.left7 c.in_ok-left8.left8 refl b7 c.in_ok-left8.ensures.value in
    let b9 = past (front8 p) (part9 p) _ n c.in_ok-left8.left8 c.in_ok-left9.left9 refl b8 c.in_ok-left9.ensures.value in
    let b10 = past (front9 p) (part10 p) _ n c.in_ok-left9.left9 c.in_ok-left10.left10 (ap replay_records c.requires.names) b9 c.in_ok-left10.ensures.value in
    let b11 = past (front10 p) (part11 p) _ n c.in_ok-left10.left10 c.in_ok-left11.left11 refl b10 c.in_ok-left11.ensures.value in
    record { value = c.pass_publications.ensures.value ∙ ap (λ rows. passed (flat_map publish_records rows) c.in_ok-left11.left11) c.as_slice-6.ensures.value ∙ sym (ends p n c.in_ok-left11.left11 b11) }
