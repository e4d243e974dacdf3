-- The first use of a key among the lines before a line. A line may have a fact: a key, and what it is used for.
use Rattle.std.specs.Prelude.{ℕ, ◌+◌, Bool, if◌then◌else◌, List, [], ◌∷◌, Option, Some, None}
use Rattle.mesh_types.specs.declared.report.ReportLine.{ReportLine}

-- the fact of the line with this number, if it has this key, before what is found behind it
abbrev pub pick : {K V : Type 0} → (K → K → Bool) → Option (K × V) → K → ℕ → Option (ℕ × V) → Option (ℕ × V)
pick same None q number behind = behind
pick same (Some fact) q number behind = if same fact.0 q then Some (number, fact.1) else behind

-- the number of the first line with this key, and its fact, behind so many lines
abbrev pub first : {K V : Type 0} → (K → K → Bool) → (ReportLine → Option (K × V)) → ℕ → K → List ReportLine
    → Option (ℕ × V)
first same f n q [] = None
first same f n q (l ∷ ls) = pick same (f l) q (n + 1) (first same f (n + 1) q ls)

-- the first, or else the second
abbrev pub or_else : {X : Type 0} → Option X → Option X → Option X
or_else None y = y
or_else (Some x) y = Some x

-- the number of the first line with the key of a fact, where it differs from what the fact says
abbrev pub clash_with : {V : Type 0} → (V → V → Bool) → Option (ℕ × V) → V → Option ℕ
clash_with differs None v = None
clash_with differs (Some used) v = if differs used.1 v then Some used.0 else None

abbrev pub clash_of : {K V : Type 0} → (V → V → Bool) → (K → Option (ℕ × V)) → Option (K × V) → Option ℕ
clash_of differs known None = None
clash_of differs known (Some fact) = clash_with differs (known fact.0) fact.1
