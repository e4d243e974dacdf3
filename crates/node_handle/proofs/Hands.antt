-- The machine values of a handle, and what it owns. Assumes `Logic`.
use Rattle.std.proofs.Common.{◌≡◌, ℕ, List, [], ◌∷◌, ◌++◌, refl, subst, Option, Some, None}
use seplogic.Ra.Ura.{Ura}
use mir.Raw.{raw as bare}
use mir.Syntax.{impl, tnil, dnil}
use mir.Val.{Val, vstruct, of_list}
use base.Logic.{ent, guard, via, snd∗, fst∗, never, guard_i}
use base.Fml.{ftrue}
use types.Logic.{Logic, sem}
use types.Kit.{Item, Goal, Seq, Step, step, ‵, given, ◌$◌, move, drop, fsplit, fjoin, fpick, fpack, feq_i, feq_l, use1, learn}
use contract.Monad.{fact_use}
use denote.RattleType.{RattleType, Valss}
use denote.Memory.{lone}
use base.Fraction.{full_share}
use denote.RawPtr.{Ptr, block_ptr, null_ptr, ptr_val, in_a_block, lies_at, Testable}
use denote.Steps.{nothing}
use denote.Param.{layout}
use denote.Struct.Struct.{within}
use denote.Struct.Owning.{fields, shape, to}
use Rattle.std.specs.contracts.alloc.Global as heap
use Rattle.std.proofs.alloc.Global.TheLaws as heap_laws
use Rattle.std.specs.contracts.impls.GlobalAllocator.TheImpl.{ghosts}
use Rattle.std.specs.declared.alloc.Global.{Global}
use Rattle.std.specs.Box.Ownership.{box_owns}
use Rattle.std.proofs.GlobalToken.{dealloc_token-Testable}
use Rattle.std.proofs.alloc.Calls.{Al, handle_tells}
use Rattle.std.proofs.cell.Inside.{Good}
use Rattle.node_handle.specs.Owned.{node_owns}
use Rattle.node_handle.specs.contracts.held.HeldNode as node
use Rattle.node_handle.specs.contracts.held.Meshnode as hand
use Rattle.node_handle.proofs.Values.{both}

abbrev pub Z : RattleType
Z = heap.the_row

abbrev pub N : RattleType
N = node.the_row

abbrev pub Hand : RattleType
Hand = hand.the_row

abbrev al : Al
al = record { row = Z; laws = heap_laws.the_row_laws; g = ghosts; d = impl [] tnil dnil; drops = impl [] tnil dnil }

module _ {M : Type 1} {𝓤 : Ura M} (𝓛 : Logic 𝓤) (a : Global) where
  pub tested : (p : Ptr) (x : N.Denot) → ent 𝓤 (sem 𝓛 (box_owns (ghosts.dealloc_token a) N p x)) (guard 𝓤 (Testable p) (sem 𝓛 (box_owns (ghosts.dealloc_token a) N p x)))
  tested p x = fact_use 𝓤 (Testable p) (via 𝓤 _ (snd∗ 𝓤 (sem 𝓛 (lies_at N full_share p x)) (sem 𝓛 (ghosts.dealloc_token a (bare (lone N.mir)) p))) (dealloc_token-Testable 𝓛 a (bare (lone N.mir)) p)) (guard_i 𝓤 (Testable p) (sem 𝓛 (box_owns (ghosts.dealloc_token a) N p x)))

module _ {M : Type 1} {𝓤 : Ura M} {𝓛 : Logic 𝓤} {K : Type 0} {Γ : List (Item 𝓤)} {G : Goal 𝓤 𝓛.H} where
  pub hand_out : K → (d : Hand.Denot) (vs : List Val)
      → ((h : Val) → vs ≡ both (ptr_val d.at) h ∷ [] → Good (layout Z) h → Seq K 𝓛 (‵ (node_owns d.alloc d.at d.value) ∷ ‵ (Z.own_val d.alloc (h ∷ [])) ∷ Γ) G)
      → Seq K 𝓛 (‵ (Hand.own_val d vs) ∷ Γ) G
  hand_out t d vs k =
      fsplit t $ fpick t (λ vss. fsplit t $ feq_l t (λ ev. fsplit t $ feq_l t (λ ep. fsplit t $ handle_tells al t d.alloc vss.1.0 (λ h ea fits. move t (1 ∷ []) $ drop t $ move t (1 ∷ []) $
      k h (subst (λ (ws : List Val). vs ≡ vstruct (of_list (ptr_val d.at ∷ (ws ++ []))) ∷ []) ea (subst (λ (ps : List Val). vs ≡ vstruct (of_list (ps ++ (vss.1.0 ++ []))) ∷ []) ep ev)) fits))))

  pub hand_in : K → (p : Ptr) (h : Val) (a : Global) (o : Option N.Denot)
      → Step K 𝓛 (‵ (Hand.own_val (record { at = p; alloc = a; value = o }) (both (ptr_val p) h ∷ [])) ∷ Γ) G (‵ (node_owns a p o) ∷ ‵ (Z.own_val a (h ∷ [])) ∷ Γ) G
  hand_in t p h a o = step (λ s. let v : Val = both (ptr_val p) h in
      nothing t $ move t (2 ∷ 0 ∷ []) $ fjoin t $ feq_i t (List Val) (ptr_val p ∷ []) (ptr_val p ∷ []) refl $ fjoin t $ feq_i t (List Val) (v ∷ []) (v ∷ []) refl $ fjoin t $
      fpack t (Valss (fields hand.the_type)) (within (shape hand.the_type) (to hand.the_type (record { at = p; alloc = a; value = o })) (v ∷ [])) (ptr_val p ∷ [], (h ∷ [], tt)) $ fjoin t $ s)

  -- a box becomes what a handle owns
  pub boxed_in : K → (a : Global) (p : Ptr) (x : N.Denot) → Step K 𝓛 (‵ (node_owns a p (Some x)) ∷ Γ) G (‵ (box_owns (ghosts.dealloc_token a) N p x) ∷ Γ) G
  boxed_in t a p x = step (λ s. use1 𝓛 (given (Testable p) (‵ (box_owns (ghosts.dealloc_token a) N p x))) (tested 𝓛 a p x) $ learn t (λ e. nothing t $ fpack t (Testable p) (λ _. ftrue) e $ fjoin t $ s))

  pub empty_in : K → (a : Global) → Step K 𝓛 (‵ (node_owns a null_ptr None) ∷ Γ) G Γ G
  empty_in t a = step (λ s. feq_i t Ptr null_ptr null_ptr refl $ s)

  -- nothing, or a box
  pub either : K → (a : Global) (p : Ptr) (o : Option N.Denot) → (p ≡ null_ptr → o ≡ None → Seq K 𝓛 Γ G)
      → ((b i : ℕ) (x : N.Denot) → p ≡ block_ptr b i → o ≡ Some x → Testable (block_ptr b i) → Seq K 𝓛 (‵ (box_owns (ghosts.dealloc_token a) N (block_ptr b i) x) ∷ Γ) G)
      → Seq K 𝓛 (‵ (node_owns a p o) ∷ Γ) G
  either t a p None none one = feq_l t (λ e. none e refl)
  either t a p (Some x) none one = fsplit t $ fpick t (λ e. drop t $
      in_a_block t p (λ q. box_owns (ghosts.dealloc_token a) N q x) (fst∗ 𝓤 (never 𝓤) (sem 𝓛 (ghosts.dealloc_token a (bare (lone N.mir)) null_ptr))) (λ b i is. one b i x is refl (subst Testable is e)))
