-- Steps one behind another, up to one that was refused.
use Rattle.std.proofs.Common.{◌≡◌, ◌∙◌, ◌++◌, ℕ, true, false, List, [], ◌∷◌, Option, Some, None, Result, Ok, Err, ap, subst, append_assoc}
use Rattle.std.specs.Prelude.{IfErr, IsErrAnd, OnOk}
use Rattle.std.proofs.lemmas.Result.{err_from_is_err_and}
use Rattle.std.specs.declared.io.Error.{Error}
use Rattle.node_store.specs.declared.provision.Provision.{Provision}
use Rattle.node_file.specs.declared.faults.MakeFault.{MakeFault}
use Rattle.node_file.specs.declared.faults.MakeFault.TheVariants as M
use Rattle.node_file.specs.Making.{Did, DidAll, DidSome, IsImageOf, IsMade, IsRefusal, IsUnmade, IsUnnamed, Step, naming, new_name}
use Rattle.node_file.specs.Making.Step.{creates, finds, names, refuses, removes, syncs}
use Rattle.node_file.specs.Making.IsUnnamed.{dropped, left, unremoved, unsynced}
use Rattle.node_file.specs.Making.IsUnmade.{no_memory, taken, unasked, uncreated, unnamed}

did_more : (xs ys : List Step) (a b c : Option (List Step)) → DidAll xs a b → DidAll ys b c → DidAll (xs ++ ys) a c
did_more xs ys None b c h k = subst (λ o. DidAll ys o c) h k
did_more xs ys (Some a) b c h k = subst (λ o. DidAll ys o c) h k ∙ ap Some (append_assoc a xs ys)

-- one step, and those behind it
pub did_next : (x : Step) (ys : List Step) (a b c : Option (List Step)) → Did x a b → DidAll ys b c → DidAll (x ∷ ys) a c
did_next x ys a b c h k = did_more (x ∷ []) ys a b c h k

pub naming_did : (name path : List ℕ) (a b c d : Option (List Step)) → Did (names name path) a b → Did (removes name) b c → Did (syncs path) c d
    → DidAll (naming name path) a d
naming_did name path a b c d named removed synced =
    did_next (names name path) _ a b d named (did_next (removes name) _ b c d removed synced)

pub not_named : {T : Type 0} (removed : Result T Error) (name path : List ℕ) (error : Error) (fault : MakeFault) (a b c : Option (List Step))
    → Did (refuses error (names name path)) a b → OnOk removed (Did (removes name) b c)
    → IfErr removed (λ behind. Did (refuses behind (removes name)) b c) → IsRefusal M.Taken error fault → DidSome (IsUnnamed name path fault) a c
not_named (Ok x) name path error fault a b c refused ok err is = record {
  steps = refuses error (names name path) ∷ removes name ∷ [];
  did = did_next (refuses error (names name path)) _ a b c refused ok;
  are = dropped error fault is;
}
not_named (Err e) name path error fault a b c refused ok err is = record {
  steps = refuses error (names name path) ∷ refuses e (removes name) ∷ [];
  did = did_next (refuses error (names name path)) _ a b c refused err;
  are = left error e fault is;
}

pub not_removed : (name path : List ℕ) (error : Error) (a b c : Option (List Step)) → Did (names name path) a b
    → Did (refuses error (removes name)) b c → DidSome (IsUnnamed name path (M.System error)) a c
not_removed name path error a b c named refused = record {
  steps = names name path ∷ refuses error (removes name) ∷ [];
  did = did_next (names name path) _ a b c named refused;
  are = unremoved error;
}

pub not_synced : (name path : List ℕ) (error : Error) (a b c d : Option (List Step)) → Did (names name path) a b
    → Did (removes name) b c → Did (refuses error (syncs path)) c d → DidSome (IsUnnamed name path (M.System error)) a d
not_synced name path error a b c d named removed refused = record {
  steps = names name path ∷ removes name ∷ refuses error (syncs path) ∷ [];
  did = did_next (names name path) _ a b d named (did_next (removes name) _ b c d removed refused);
  are = unsynced error;
}

pub made_in : (path name image : List ℕ) (p : Provision) (a b c d : Option (List Step)) → name ≡ new_name path → IsImageOf p image
    → Did (finds path false) a b → Did (creates name image) b c → DidAll (naming name path) c d → IsMade path p a d
made_in path name image p a b c d is image_is found created named = record {
  image = image;
  is = image_is;
  did = did_next (finds path false) _ a b d found
      (did_next (creates (new_name path) image) _ b c d (subst (λ n. Did (creates n image) b c) is created)
      (subst (λ n. DidAll (naming n path) c d) is named));
}

pub not_asked : (path : List ℕ) (p : Provision) (error : Error) (a b : Option (List Step)) → Did (refuses error (finds path false)) a b
    → DidSome (IsUnmade path p (M.System error)) a b
not_asked path p error a b did = record { steps = refuses error (finds path false) ∷ []; did = did; are = unasked error }

pub found_one : (path : List ℕ) (p : Provision) (a b : Option (List Step)) → Did (finds path true) a b → DidSome (IsUnmade path p M.Taken) a b
found_one path p a b did = record { steps = finds path true ∷ []; did = did; are = taken }

pub only_asked : (path : List ℕ) (p : Provision) (a b : Option (List Step)) → Did (finds path false) a b
    → DidSome (IsUnmade path p M.Memory) a b
only_asked path p a b did = record { steps = finds path false ∷ []; did = did; are = no_memory }

pub not_created : (path name image : List ℕ) (p : Provision) (error : Error) (fault : MakeFault) (a b c : Option (List Step)) → name ≡ new_name path
    → IsImageOf p image → Did (finds path false) a b → Did (refuses error (creates name image)) b c → IsRefusal M.Begun error fault
    → DidSome (IsUnmade path p fault) a c
not_created path name image p error fault a b c is image_is found refused refusal = record {
  steps = finds path false ∷ refuses error (creates (new_name path) image) ∷ [];
  did = did_next (finds path false) _ a b c found (subst (λ n. Did (refuses error (creates n image)) b c) is refused);
  are = uncreated error fault image image_is refusal;
}

pub not_finished : (path name image : List ℕ) (p : Provision) (fault : MakeFault) (a b c d : Option (List Step)) → name ≡ new_name path
    → IsImageOf p image → Did (finds path false) a b → Did (creates name image) b c → DidSome (IsUnnamed name path fault) c d
    → DidSome (IsUnmade path p fault) a d
not_finished path name image p fault a b c d is image_is found created some =
    let behind : DidSome (IsUnnamed (new_name path) path fault) c d = subst (λ n. DidSome (IsUnnamed n path fault) c d) is some in
    record {
      steps = finds path false ∷ creates (new_name path) image ∷ behind.steps;
      did = did_next (finds path false) _ a b d found
          (did_next (creates (new_name path) image) _ b c d (subst (λ n. Did (creates n image) b c) is created) behind.did);
      are = unnamed fault image behind.steps image_is behind.are;
    }

-- what the exit of a `?` answers
pub if_err_is : {T E : Type 0} (P : E → Type 0) (r : Result T E) (e : E) → IsErrAnd r (λ y. y ≡ e) → P e → IfErr r P
if_err_is P r e is h =
    let p = err_from_is_err_and r is in
    rw (p.1, p.2) h

pub on_ok_so : {T E : Type 0} (P Q : Type 0) (r : Result T E) → (P → Q) → OnOk r P → OnOk r Q
on_ok_so P Q (Ok x) f h = f h
on_ok_so P Q (Err e) f h = h

pub if_err_so : {T E : Type 0} (P Q : E → Type 0) (r : Result T E) → ((e : E) → P e → Q e) → IfErr r P → IfErr r Q
if_err_so P Q (Ok x) f h = h
if_err_so P Q (Err e) f h = f e h
