-- Time up to a moment at which nothing is due leaves the friendships.
use Rattle.std.proofs.Common.{◌≡◌, ◌∙◌, ℕ, ◌+◌, ◌-◌, ◌≤◌, ◌^◌, List, [], ◌∷◌, ◌++◌, map, filter, min, refl, sym, ap, subst, arith}
use Rattle.std.specs.List.{filter_map}
use Rattle.layer_states.specs.Friends.{FriendsState, after, tick}
use Rattle.layer_states.specs.declared.friends.OwnShort.{OwnShort}
use Rattle.mesh_types.specs.declared.answers.Answer.{Answer}
use Rattle.mesh_types.specs.declared.answers.Answer.TheVariants as A
use Rattle.model_states.specs.Publication.{rows_due}
use Rattle.node_friends.specs.Steps.{AreFriendsOf, GoOn, after_sent, answer_step, friends_step, heard_step}
use Rattle.node_layers.specs.Friendship.{publication_short}
use Rattle.node_layers.specs.Publishing.{is_still_held, publication_of, publications_due, published}
use Rattle.record_types.specs.declared.records.PublishRow.{PublishRow}
use Rattle.record_types.specs.declared.records.StoreRecord.{StoreRecord}
use Rattle.event_definitions.specs.Answers.{config_before}
use Rattle.event_definitions.specs.History.{Insight, OfNothing, Past, Told, now_of}
use Rattle.store_definitions.specs.Config.{Config}

same_time : (from now : ℕ) → from ≤ now → now ≤ 2 ^ 48 → min (2 ^ 48) (from + (now - from)) ≡ now
same_time from now h k = omega (arith, h, k)

none_published : (past : Past) (c : Config) (now : ℕ) → now_of past.told ≤ now → now ≤ 2 ^ 48 → rows_due (published past) now ≡ []
    → [] ≡ map publication_short (publications_due past c (now - now_of past.told))
none_published past c now h k none =
    ap (λ (rows : List PublishRow). map publication_short (filter_map (publication_of past c now) (filter (is_still_held c) rows))) (sym none)
    ∙ sym (ap (λ n. map publication_short (filter_map (publication_of past c n) (filter (is_still_held c) (rows_due (published past) n))))
    (same_time (now_of past.told) now h k))

pub friends_wait : GoOn → (past : Past) (st : FriendsState) (now : ℕ) (e : Told) → AreFriendsOf st past.told
    → now_of past.told ≤ now → now ≤ 2 ^ 48 → after st (tick now) ≡ st → rows_due (published past) now ≡ []
    → e.insight ≡ OfNothing → e.entry.answer ≡ A.Ticked now → e.records ≡ past.records → AreFriendsOf st (past.told ++ e ∷ [])
friends_wait more past st now e are h k still none nothing ticked records =
    subst (λ (s : FriendsState). AreFriendsOf s (past.told ++ e ∷ [])) (sym (
    sym still
    ∙ ap (λ (ms : List OwnShort). after_sent (after st (tick now)) ms) (none_published past (config_before past) now h k none)
    ∙ sym (ap (λ (i : Insight). answer_step past (heard_step st i (A.Ticked now)) e (A.Ticked now)) nothing)
    ∙ sym (ap (λ (x : Answer). answer_step past (heard_step st e.insight x) e x) ticked)
    ∙ sym (ap (λ (rs : List StoreRecord). friends_step st (record { told = past.told; records = rs }) e) records)
    ))
    (more st past.told e are)
