-- Materials of keys, one by one.
use Rattle.std.proofs.Common.{◌≡◌, ℕ, zero, suc, ◌+◌, ◌<◌, ◌^◌, List, [], ◌∷◌, ◌++◌, length, get_or, take, map, Some, sym, ap, subst, ◌∙◌}
use Rattle.std.specs.List.{slice_get}
use Rattle.std.proofs.lemmas.List.{take_more, map-append}
use Rattle.mesh_base.specs.declared.fields.NetMaterial.{NetMaterial}
use Rattle.script_definitions.specs.Events.{material_of}
use Rattle.script_definitions.specs.declared.line.ScriptNet.{ScriptNet}

pub nids_push : (ms : List NetMaterial) (x : NetMaterial) → ((k : ℕ) (m : NetMaterial) → slice_get ms k ≡ Some m → m.nid < 2 ^ 7) → x.nid < 2 ^ 7
    → (k : ℕ) (m : NetMaterial) → slice_get (ms ++ x ∷ []) k ≡ Some m → m.nid < 2 ^ 7
nids_push [] x h low zero m e = let same : x ≡ m = cc in subst (λ (y : NetMaterial). y.nid < 2 ^ 7) same low
nids_push [] x h low (suc k) m e = cc
nids_push (y ∷ ms) x h low zero m e = h zero m e
nids_push (y ∷ ms) x h low (suc k) m e = nids_push ms x (λ i n g. h (suc i) n g) low k m e

pub materials_push : (keys : List ScriptNet) (i : ℕ) (d : ScriptNet) (ms items : List NetMaterial) (x : NetMaterial) → i < length keys → items ≡ ms ++ x ∷ []
    → x ≡ material_of (get_or keys i d) → ms ≡ map material_of (take i keys) → items ≡ map material_of (take (i + 1) keys)
materials_push keys i d ms items x lt new at e =
    let more : take (i + 1) keys ≡ take i keys ++ get_or keys i d ∷ [] = take_more keys i d lt in
    new ∙ ap (λ (y : NetMaterial). ms ++ y ∷ []) at ∙ ap (λ (xs : List NetMaterial). xs ++ material_of (get_or keys i d) ∷ []) e
    ∙ sym (ap (map material_of) more ∙ map-append material_of (take i keys) (get_or keys i d ∷ []))
