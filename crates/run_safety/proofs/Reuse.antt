-- No nonce of this node seals twice, over all lives.
use Rattle.std.proofs.Common.{◌≡◌, ◌≢◌, ℕ, ◌+◌, ◌*◌, ◌^◌, ◌<◌, ◌≤◌, true, false, List, [], ◌∷◌, refl, ap, sym, ◌∙◌, arith}
use Rattle.std.specs.List.{AllByRecursion, flat_map}
use Rattle.std.proofs.lemmas.Grind.{flat_map-append}
use Rattle.std.proofs.lemmas.List.Elements.{recursion_from_All}
use Rattle.mesh_base.proofs.IvStates.{transmit_known}
use Rattle.mesh_base.specs.IvState.{transmit_of}
use Rattle.mesh_base.specs.declared.pair.Pair.{Pair}
use Rattle.record_types.specs.declared.records.StoreRecord.{StoreRecord}
use Rattle.store_definitions.specs.Config.{Config, config_of}
use Rattle.event_definitions.specs.Role.{Role}
use Rattle.run_definitions.specs.Order.{Step}
use Rattle.mesh_base.specs.Pairs.{word_of}
use Rattle.report_definitions.specs.Record.{Life, LifeOver, Run, first_over, shown}
use Rattle.run_definitions.specs.RunOf.{Script, draws}
use Rattle.run_safety.specs.Rules.{LifeBy, LivesBy, RunBy, enough_rules}
use Rattle.run_safety.specs.Safety.{all_draws}
use Rattle.run_safety.specs.SafeRole.{IsSafeRole, Marked}
use Rattle.run_definitions.specs.Uses.{NoReuse, Use, life_seals, node_of, uses}
use Rattle.run_safety.proofs.Handled.{marked}
use Rattle.run_safety.proofs.LifeLines.{life_lines}
use Rattle.run_safety.proofs.Lists.{Apart, Sub, apart_append, apart_from_pairs, apart_map, apart_sub, every_sub, no_part, pairs_from_apart, sub_append}
use Rattle.event_definitions.proofs.Each.{every_append, every_map}
use Rattle.run_safety.proofs.Lives.{end_in_range, life_later}
use Rattle.run_safety.proofs.Nonces.{NoClash, Tagged, Wide, lines_tagged, no_clash, no_use, tagged_append}
use Rattle.run_safety.proofs.Rising.{Later, later_after, later_same}
use Rattle.run_safety.proofs.Walking.{Tag, doubled, network_tag, tags, upper_tag}

abbrev life_draws : LifeOver → List Pair
life_draws x = draws (shown x.life)

-- The pairs of a life are within their widths.

iv_below : (iv seq mark transmit current : ℕ) → iv * 2 ^ 25 + seq < mark → mark ≤ transmit * 2 ^ 25 + 2 ^ 24 → transmit ≤ current → current < 2 ^ 32 → iv < 2 ^ 32
iv_below iv seq mark transmit current a b c d = omega arith

marked_kept : (c d : Config) → d.iv ≡ c.iv → d.mark ≡ c.mark → Marked c → Marked d
marked_kept c d e f m = record { mark = rw (e, f) m.mark; current = rw e m.current }

wide_below : (c : Config) → Marked c → (ps : List Pair) → AllByRecursion (λ (p : Pair). p.seq < 2 ^ 24) ps → AllByRecursion (λ (p : Pair). word_of p < c.mark) ps → AllByRecursion Wide ps
wide_below c m [] h k = tt
wide_below c m (p ∷ ps) h k =
    (record { seq = h.0; iv = iv_below p.iv p.seq c.mark (transmit_of c.iv) c.iv.current k.0 m.mark (transmit_known c.iv) m.current }, wide_below c m ps h.1 k.1)

module _ (role : Role) (safe : IsSafeRole role) (plan : List Step) (over : List StoreRecord) (l : Life) (next : List StoreRecord) (h : LifeBy enough_rules role plan over l next) where
  next_marked : Marked (config_of next)
  next_marked = marked_kept _ (config_of next) h.leaves.alike.iv h.leaves.alike.mark (marked _ (end_in_range role safe plan over l next h))

  life_wide : AllByRecursion Wide (draws (shown l))
  life_wide = wide_below (config_of next) next_marked (draws (shown l)) (recursion_from_All _ (draws (shown l)) h.drawn.seq) (recursion_from_All _ (draws (shown l)) h.drawn.below)

-- The pairs of all lives: none stands twice, since each life draws from the mark that it opens with up to the mark
-- that it leaves.

pub record Drawn (lives : List LifeOver) (last : List StoreRecord) : Type 0 where
  pub wide : AllByRecursion Wide (all_draws lives)
  pub from : AllByRecursion (λ (p : Pair). (config_of (first_over lives last)).mark ≤ word_of p) (all_draws lives)
  pub once : Apart (λ p q. word_of p ≢ word_of q) (all_draws lives)

apart_by_mark : (mark : ℕ) (ps qs : List Pair) → AllByRecursion (λ (p : Pair). word_of p < mark) ps → AllByRecursion (λ (q : Pair). mark ≤ word_of q) qs
    → AllByRecursion (λ (p : Pair). AllByRecursion (λ (q : Pair). word_of p ≢ word_of q) qs) ps
apart_by_mark mark [] qs h k = tt
apart_by_mark mark (p ∷ ps) qs h k =
    (every_map (λ (q : Pair). mark ≤ word_of q) (λ (q : Pair). word_of p ≢ word_of q) (λ q m e. let a : word_of p < mark = h.0 in omega arith) qs k, apart_by_mark mark ps qs h.1 k)

pub lives_drawn : (role : Role) → IsSafeRole role → (plans : List (List Step)) (lives : List LifeOver) (last : List StoreRecord) → LivesBy enough_rules role plans lives last → Drawn lives last
lives_drawn role safe [] [] last h = record { wide = tt; from = tt; once = tt }
lives_drawn role safe [] (x ∷ xs) last h = absurd h
lives_drawn role safe (plan ∷ plans) [] last h = absurd h
lives_drawn role safe (plan ∷ plans) (x ∷ xs) last h =
    let next : List StoreRecord = first_over xs last in
    let rest : Drawn xs last = lives_drawn role safe plans xs last h.1 in
    let later : Later (config_of x.over) (config_of next) = life_later role safe plan x.over x.life next h.0 in
    let below : AllByRecursion (λ (p : Pair). word_of p < (config_of next).mark) (life_draws x) = recursion_from_All _ (life_draws x) h.0.drawn.below in
    record {
      wide = every_append Wide (life_draws x) (all_draws xs) (life_wide role safe plan x.over x.life next h.0) rest.wide;
      from =
          every_append (λ (p : Pair). (config_of x.over).mark ≤ word_of p) (life_draws x) (all_draws xs) (recursion_from_All _ (life_draws x) h.0.drawn.from)
          (every_map (λ (p : Pair). (config_of next).mark ≤ word_of p) (λ (p : Pair). (config_of x.over).mark ≤ word_of p) (λ p m. let a : (config_of x.over).mark ≤ (config_of next).mark = later.mark in omega arith) (all_draws xs) rest.from);
      once =
          apart_append (λ p q. word_of p ≢ word_of q) (life_draws x) (all_draws xs) (apart_from_pairs (λ p q. word_of p ≢ word_of q) (life_draws x) h.0.drawn.once) rest.once
          (apart_by_mark (config_of next).mark (life_draws x) (all_draws xs) below rest.from);
    }

-- What all lines seal with.

abbrev all_tags : List LifeOver → List Tag
all_tags lives = flat_map (λ x. tags (shown x.life)) lives

record Sealed (own : Config) (lives : List LifeOver) : Type 0 where
  tagged : Tagged own (flat_map (λ x. life_seals x.life) lives) (all_tags lives)
  sub : Sub Tag (all_tags lives) (doubled (all_draws lives))

lives_sealed : (role : Role) → IsSafeRole role → (own : Config) (plans : List (List Step)) (lives : List LifeOver) (last : List StoreRecord)
    → LivesBy enough_rules role plans lives last → Later own (config_of (first_over lives last)) → Sealed own lives
lives_sealed role safe own [] [] last h k = record { tagged = no_use; sub = no_part }
lives_sealed role safe own [] (x ∷ xs) last h k = absurd h
lives_sealed role safe own (plan ∷ plans) [] last h k = absurd h
lives_sealed role safe own (plan ∷ plans) (x ∷ xs) last h k =
    let next : List StoreRecord = first_over xs last in
    let later : Later own (config_of next) = later_after own (config_of x.over) (config_of next) k (life_later role safe plan x.over x.life next h.0) in
    let rest : Sealed own xs = lives_sealed role safe own plans xs last h.1 later in
    let lines = life_lines role safe plan x.over x.life next h.0 own k in
    record {
      tagged = tagged_append own (lines_tagged own (shown x.life) lines.shown) rest.tagged;
      sub = rw flat_map-append (sub_append lines.sub rest.sub);
    }

-- Each pair seals at most once for each layer.

pub both_wide : (ps : List Pair) → AllByRecursion Wide ps → AllByRecursion (λ (t : Tag). Wide t.pair) (doubled ps)
both_wide [] h = tt
both_wide (p ∷ ps) h = (h.0, (h.0, both_wide ps h.1))

other_pair : (p : Pair) (t : Tag) (qs : List Pair) → t.pair ≡ p → AllByRecursion (λ (q : Pair). word_of p ≢ word_of q) qs → AllByRecursion (λ s. t ≢ s) (doubled qs)
other_pair p t [] is h = tt
other_pair p t (q ∷ qs) is h =
    ((λ e. h.0 (ap word_of (sym is) ∙ ap (λ (s : Tag). word_of s.pair) e)), ((λ e. h.0 (ap word_of (sym is) ∙ ap (λ (s : Tag). word_of s.pair) e)), other_pair p t qs is h.1))

pub doubled_apart : (ps : List Pair) → Apart (λ p q. word_of p ≢ word_of q) ps → Apart (λ s t. s ≢ t) (doubled ps)
doubled_apart [] h = tt
doubled_apart (p ∷ ps) h =
    (((λ e. let f : true ≡ false = ap (λ (s : Tag). s.upper) e in cc), other_pair p (upper_tag p) ps refl h.0), (other_pair p (network_tag p) ps refl h.0, doubled_apart ps h.1))

abbrev IsConsistent : Use → Use → Type 0
IsConsistent u v = u.key ≡ v.key → u.nonce ≡ v.nonce → u.plain ≡ v.plain

pub no_reuse : (role : Role) → IsSafeRole role → (s : Script) (r : Run) → RunBy enough_rules role s r → NoReuse (uses r)
no_reuse role safe s r h =
    let drawn : Drawn r.lives r.last = lives_drawn role safe s.lives r.lives r.last h.lives in
    let sealed : Sealed (node_of r) r.lives = lives_sealed role safe (node_of r) s.lives r.lives r.last h.lives (later_same (node_of r)) in
    let once : Apart (λ s t. s ≢ t) (all_tags r.lives) = apart_sub (λ s t. s ≢ t) sealed.sub (doubled_apart (all_draws r.lives) drawn.once) in
    let wide : AllByRecursion (λ (t : Tag). Wide t.pair) (all_tags r.lives) = every_sub (λ (t : Tag). Wide t.pair) sealed.sub (both_wide (all_draws r.lives) drawn.wide) in
    pairs_from_apart IsConsistent (uses r) (apart_map NoClash IsConsistent (λ u v clash key nonce. absurd (clash nonce)) (uses r) (no_clash (node_of r) sealed.tagged once wide))
