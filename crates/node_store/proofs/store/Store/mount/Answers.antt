use Rattle.std.proofs.Common.{◌≡◌, inl, inr, ⊎_elim, ap, ◌∙◌, arith}
use Rattle.std.specs.Prelude.{Err, IsTrue}
use Rattle.flash_model.specs.Chip.{Stays, count_of}
use Rattle.flash_model.proofs.Runs.{stays_more}
use Rattle.node_store.specs.declared.mounting.StoreFault.TheVariants as F
use Rattle.node_store.specs.Causes.{IsNotFlash, IsStoreCause}
use Rattle.node_store.specs.Mounted.{IsMounted}
use Rattle.node_store.proofs.Mounts.{err_of, exact_cause, held_same_mark, if_err_all, mount_kept, mount_moment, none_found, read_exactly, read_moment, store_cause, store_mounted, was_reset}
use Rattle.node_store.proofs.Wears.{opened_with, same_count}
use Rattle.node_store.proofs.store.Store.mount.Goals as goal

pub returns-in_err-journal-clause-any_moment : goal.returns-in_err-journal-clause-any_moment
returns-in_err-journal-clause-any_moment g c fresh tidy records holds =
    let old = g.F.Flash.chip c.args.flash.now in
    let mid = g.F.Flash.chip c.mount.new.flash in
    read_moment old mid records (g.met.F.Flash.only_now c.args.flash.now) fresh tidy (c.in_err-journal.ensures.stays fresh.honest) holds

pub returns-in_err-journal-clause-same_mark : goal.returns-in_err-journal-clause-same_mark
returns-in_err-journal-clause-same_mark g c fresh tidy records holds =
    let old = g.F.Flash.chip c.args.flash.now in
    let mid = g.F.Flash.chip c.mount.new.flash in
    held_same_mark old mid records (read_moment old mid records (g.met.F.Flash.only_now c.args.flash.now) fresh tidy (c.in_err-journal.ensures.stays fresh.honest) holds)

pub returns-in_err-persist-clause-exact : goal.returns-in_err-persist-clause-exact
returns-in_err-persist-clause-exact g c honest fault found =
    let old = g.F.Flash.chip c.args.flash.now in
    let mid = g.F.Flash.chip c.mount.new.flash in
    let read = g.F.Flash.chip c.read_records.new.flash in
    let journal = c.in_ok-journal.ensures in
    let e = c.in_err-persist.field-0.0 in
    let cause : IsStoreCause old read e = store_cause old mid c.in_ok-journal.journal journal.frame journal.stays journal.mounted read e c.in_err-persist.ensures.cause in
    let is : c.from_residual-in_err-persist.result ≡ Err e = err_of c.from_residual-in_err-persist.result e c.from_residual-in_err-persist.ensures.1 in
    ⊎_elim (λ h. inl (is ∙ ap (λ x. Err x) h)) (λ h. inr (is ∙ ap (λ x. Err x) h)) (exact_cause old read e honest cause fault found)

pub returns-in_err-persist-clause-unchanged : goal.returns-in_err-persist-clause-unchanged
returns-in_err-persist-clause-unchanged g c honest =
    let old = g.F.Flash.chip c.args.flash.now in
    let mid = g.F.Flash.chip c.mount.new.flash in
    let read = g.F.Flash.chip c.read_records.new.flash in
    let journal = c.in_ok-journal.ensures in
    let stays : IsTrue old.honest → Stays old read = λ honest. stays_more old mid read (journal.stays honest) (c.in_err-persist.ensures.stays (journal.frame.honest ∙ honest)) in
    if_err_all c.from_residual-in_err-persist.result (λ e. IsNotFlash e → Stays old read) (λ e other. stays honest)

pub returns-in_err-persist-clause-stays : goal.returns-in_err-persist-clause-stays
returns-in_err-persist-clause-stays g c honest other =
    let old = g.F.Flash.chip c.args.flash.now in
    let mid = g.F.Flash.chip c.mount.new.flash in
    let read = g.F.Flash.chip c.read_records.new.flash in
    let journal = c.in_ok-journal.ensures in
    let stays : IsTrue old.honest → Stays old read = λ honest. stays_more old mid read (journal.stays honest) (c.in_err-persist.ensures.stays (journal.frame.honest ∙ honest)) in
    stays honest

pub returns-in_err-persist-clause-any_moment : goal.returns-in_err-persist-clause-any_moment
returns-in_err-persist-clause-any_moment g c fresh tidy records holds =
    let old = g.F.Flash.chip c.args.flash.now in
    let mid = g.F.Flash.chip c.mount.new.flash in
    let read = g.F.Flash.chip c.read_records.new.flash in
    let journal = c.in_ok-journal.ensures in
    let stays : IsTrue old.honest → Stays old read = λ honest. stays_more old mid read (journal.stays honest) (c.in_err-persist.ensures.stays (journal.frame.honest ∙ honest)) in
    read_moment old read records (g.met.F.Flash.only_now c.args.flash.now) fresh tidy (stays fresh.honest) holds

pub returns-in_err-persist-clause-same_mark : goal.returns-in_err-persist-clause-same_mark
returns-in_err-persist-clause-same_mark g c fresh tidy records holds =
    let old = g.F.Flash.chip c.args.flash.now in
    let mid = g.F.Flash.chip c.mount.new.flash in
    let read = g.F.Flash.chip c.read_records.new.flash in
    let journal = c.in_ok-journal.ensures in
    let stays : IsTrue old.honest → Stays old read = λ honest. stays_more old mid read (journal.stays honest) (c.in_err-persist.ensures.stays (journal.frame.honest ∙ honest)) in
    held_same_mark old read records (read_moment old read records (g.met.F.Flash.only_now c.args.flash.now) fresh tidy (stays fresh.honest) holds)

pub returns-then-persist-clause-unchanged : goal.returns-then-persist-clause-unchanged
returns-then-persist-clause-unchanged g c honest other =
    let old = g.F.Flash.chip c.args.flash.now in
    let mid = g.F.Flash.chip c.mount.new.flash in
    let read = g.F.Flash.chip c.read_records.new.flash in
    let journal = c.in_ok-journal.ensures in
    let stays : IsTrue old.honest → Stays old read = λ honest. stays_more old mid read (journal.stays honest) (c.in_ok-persist.ensures.stays (journal.frame.honest ∙ honest)) in
    stays honest

pub returns-then-persist-clause-stays : goal.returns-then-persist-clause-stays
returns-then-persist-clause-stays g c honest other =
    let old = g.F.Flash.chip c.args.flash.now in
    let mid = g.F.Flash.chip c.mount.new.flash in
    let read = g.F.Flash.chip c.read_records.new.flash in
    let journal = c.in_ok-journal.ensures in
    let stays : IsTrue old.honest → Stays old read = λ honest. stays_more old mid read (journal.stays honest) (c.in_ok-persist.ensures.stays (journal.frame.honest ∙ honest)) in
    stays honest

pub returns-then-persist-clause-any_moment : goal.returns-then-persist-clause-any_moment
returns-then-persist-clause-any_moment g c fresh tidy records holds =
    let old = g.F.Flash.chip c.args.flash.now in
    let mid = g.F.Flash.chip c.mount.new.flash in
    let read = g.F.Flash.chip c.read_records.new.flash in
    let journal = c.in_ok-journal.ensures in
    let stays : IsTrue old.honest → Stays old read = λ honest. stays_more old mid read (journal.stays honest) (c.in_ok-persist.ensures.stays (journal.frame.honest ∙ honest)) in
    read_moment old read records (g.met.F.Flash.only_now c.args.flash.now) fresh tidy (stays fresh.honest) holds

pub returns-then-persist-clause-same_mark : goal.returns-then-persist-clause-same_mark
returns-then-persist-clause-same_mark g c fresh tidy records holds =
    let old = g.F.Flash.chip c.args.flash.now in
    let mid = g.F.Flash.chip c.mount.new.flash in
    let read = g.F.Flash.chip c.read_records.new.flash in
    let journal = c.in_ok-journal.ensures in
    let stays : IsTrue old.honest → Stays old read = λ honest. stays_more old mid read (journal.stays honest) (c.in_ok-persist.ensures.stays (journal.frame.honest ∙ honest)) in
    held_same_mark old read records (read_moment old read records (g.met.F.Flash.only_now c.args.flash.now) fresh tidy (stays fresh.honest) holds)

pub returns-then-persist-clause-cause : goal.returns-then-persist-clause-cause
returns-then-persist-clause-cause g c honest =
    let old = g.F.Flash.chip c.args.flash.now in
    let mid = g.F.Flash.chip c.mount.new.flash in
    let read = g.F.Flash.chip c.read_records.new.flash in
    let journal = c.in_ok-journal.ensures in
    was_reset old mid c.in_ok-journal.journal journal.frame journal.stays journal.mounted c.in_ok-persist.persist journal.value c.in_ok-persist.ensures.value honest c.if-persist.true

pub returns-then-persist-clause-exact : goal.returns-then-persist-clause-exact
returns-then-persist-clause-exact g c honest fault found =
    let old = g.F.Flash.chip c.args.flash.now in
    let mid = g.F.Flash.chip c.mount.new.flash in
    let read = g.F.Flash.chip c.read_records.new.flash in
    let journal = c.in_ok-journal.ensures in
    let cause : IsStoreCause old read F.WasReset = λ true_honest. was_reset old mid c.in_ok-journal.journal journal.frame journal.stays journal.mounted c.in_ok-persist.persist journal.value c.in_ok-persist.ensures.value true_honest c.if-persist.true in
    ⊎_elim (λ h. inl (ap (λ x. Err x) h)) (λ h. inr (ap (λ x. Err x) h)) (exact_cause old read F.WasReset honest cause fault found)

pub returns-clause-exact : goal.returns-clause-exact
returns-clause-exact g c honest fault found =
    let old = g.F.Flash.chip c.args.flash.now in
    let mid = g.F.Flash.chip c.mount.new.flash in
    let read = g.F.Flash.chip c.read_records.new.flash in
    let journal = c.in_ok-journal.ensures in
    let p = c.in_ok-persist.persist in
    let mounted : IsTrue old.honest → IsMounted old.now p = λ honest. store_mounted old mid c.in_ok-journal.journal journal.frame journal.stays journal.mounted p journal.value c.in_ok-persist.ensures.value honest c.if-persist.false in
    absurd (none_found old.now p fault (mounted honest) found)

pub returns-clause-mounted : goal.returns-clause-mounted
returns-clause-mounted g c honest =
    let old = g.F.Flash.chip c.args.flash.now in
    let mid = g.F.Flash.chip c.mount.new.flash in
    let read = g.F.Flash.chip c.read_records.new.flash in
    let journal = c.in_ok-journal.ensures in
    let p = c.in_ok-persist.persist in
    let mounted : IsTrue old.honest → IsMounted old.now p = λ honest. store_mounted old mid c.in_ok-journal.journal journal.frame journal.stays journal.mounted p journal.value c.in_ok-persist.ensures.value honest c.if-persist.false in
    mounted honest

pub returns-in_err-journal-2-clause-any_moment : goal.returns-in_err-journal-2-clause-any_moment
returns-in_err-journal-2-clause-any_moment g c fresh tidy records holds =
    let old = g.F.Flash.chip c.args.flash.now in
    let mid = g.F.Flash.chip c.mount.new.flash in
    let read = g.F.Flash.chip c.read_records.new.flash in
    let journal = c.in_ok-journal.ensures in
    let p = c.in_ok-persist.persist in
    let mounted : IsTrue old.honest → IsMounted old.now p = λ honest. store_mounted old mid c.in_ok-journal.journal journal.frame journal.stays journal.mounted p journal.value c.in_ok-persist.ensures.value honest c.if-persist.false in
    let first : Stays old mid = journal.stays fresh.honest in
    let second : Stays mid read = c.in_ok-persist.ensures.stays (journal.frame.honest ∙ fresh.honest) in
    let is = mounted fresh.honest in
    let exact = read_exactly old mid read c.in_ok-journal.journal p c.in_ok-persist.ensures.frame first second (journal.kept fresh tidy) is in
    let new = g.F.Flash.chip c.migrated.new.flash in
    mount_moment old mid read c.in_ok-journal.journal p c.in_ok-persist.ensures.frame first second (journal.kept fresh tidy) is records holds new (g.met.F.Flash.only_now c.args.flash.now) fresh tidy (c.in_err-journal-2.ensures.any_moment is.records exact)

pub returns-in_err-journal-2-clause-same_mark : goal.returns-in_err-journal-2-clause-same_mark
returns-in_err-journal-2-clause-same_mark g c fresh tidy records holds =
    let old = g.F.Flash.chip c.args.flash.now in
    let mid = g.F.Flash.chip c.mount.new.flash in
    let read = g.F.Flash.chip c.read_records.new.flash in
    let journal = c.in_ok-journal.ensures in
    let p = c.in_ok-persist.persist in
    let mounted : IsTrue old.honest → IsMounted old.now p = λ honest. store_mounted old mid c.in_ok-journal.journal journal.frame journal.stays journal.mounted p journal.value c.in_ok-persist.ensures.value honest c.if-persist.false in
    let first : Stays old mid = journal.stays fresh.honest in
    let second : Stays mid read = c.in_ok-persist.ensures.stays (journal.frame.honest ∙ fresh.honest) in
    let is = mounted fresh.honest in
    let exact = read_exactly old mid read c.in_ok-journal.journal p c.in_ok-persist.ensures.frame first second (journal.kept fresh tidy) is in
    let new = g.F.Flash.chip c.migrated.new.flash in
    held_same_mark old new records
    (mount_moment old mid read c.in_ok-journal.journal p c.in_ok-persist.ensures.frame first second (journal.kept fresh tidy) is records holds new (g.met.F.Flash.only_now c.args.flash.now) fresh tidy (c.in_err-journal-2.ensures.any_moment is.records exact))

pub returns-clause-any_moment : goal.returns-clause-any_moment
returns-clause-any_moment g c fresh tidy records holds =
    let old = g.F.Flash.chip c.args.flash.now in
    let mid = g.F.Flash.chip c.mount.new.flash in
    let read = g.F.Flash.chip c.read_records.new.flash in
    let journal = c.in_ok-journal.ensures in
    let p = c.in_ok-persist.persist in
    let mounted : IsTrue old.honest → IsMounted old.now p = λ honest. store_mounted old mid c.in_ok-journal.journal journal.frame journal.stays journal.mounted p journal.value c.in_ok-persist.ensures.value honest c.if-persist.false in
    let first : Stays old mid = journal.stays fresh.honest in
    let second : Stays mid read = c.in_ok-persist.ensures.stays (journal.frame.honest ∙ fresh.honest) in
    let is = mounted fresh.honest in
    let exact = read_exactly old mid read c.in_ok-journal.journal p c.in_ok-persist.ensures.frame first second (journal.kept fresh tidy) is in
    let new = g.F.Flash.chip c.migrated.new.flash in
    mount_moment old mid read c.in_ok-journal.journal p c.in_ok-persist.ensures.frame first second (journal.kept fresh tidy) is records holds new (g.met.F.Flash.only_now c.args.flash.now) fresh tidy (c.in_ok-journal-2.ensures.any_moment is.records exact)

pub returns-clause-same_mark : goal.returns-clause-same_mark
returns-clause-same_mark g c fresh tidy records holds =
    let old = g.F.Flash.chip c.args.flash.now in
    let mid = g.F.Flash.chip c.mount.new.flash in
    let read = g.F.Flash.chip c.read_records.new.flash in
    let journal = c.in_ok-journal.ensures in
    let p = c.in_ok-persist.persist in
    let mounted : IsTrue old.honest → IsMounted old.now p = λ honest. store_mounted old mid c.in_ok-journal.journal journal.frame journal.stays journal.mounted p journal.value c.in_ok-persist.ensures.value honest c.if-persist.false in
    let first : Stays old mid = journal.stays fresh.honest in
    let second : Stays mid read = c.in_ok-persist.ensures.stays (journal.frame.honest ∙ fresh.honest) in
    let is = mounted fresh.honest in
    let exact = read_exactly old mid read c.in_ok-journal.journal p c.in_ok-persist.ensures.frame first second (journal.kept fresh tidy) is in
    let new = g.F.Flash.chip c.migrated.new.flash in
    held_same_mark old new records
    (mount_moment old mid read c.in_ok-journal.journal p c.in_ok-persist.ensures.frame first second (journal.kept fresh tidy) is records holds new (g.met.F.Flash.only_now c.args.flash.now) fresh tidy (c.in_ok-journal-2.ensures.any_moment is.records exact))

pub returns-clause-kept : goal.returns-clause-kept
returns-clause-kept g c fresh tidy records holds =
    let old = g.F.Flash.chip c.args.flash.now in
    let mid = g.F.Flash.chip c.mount.new.flash in
    let read = g.F.Flash.chip c.read_records.new.flash in
    let journal = c.in_ok-journal.ensures in
    let p = c.in_ok-persist.persist in
    let mounted : IsTrue old.honest → IsMounted old.now p = λ honest. store_mounted old mid c.in_ok-journal.journal journal.frame journal.stays journal.mounted p journal.value c.in_ok-persist.ensures.value honest c.if-persist.false in
    let first : Stays old mid = journal.stays fresh.honest in
    let second : Stays mid read = c.in_ok-persist.ensures.stays (journal.frame.honest ∙ fresh.honest) in
    let is = mounted fresh.honest in
    let exact = read_exactly old mid read c.in_ok-journal.journal p c.in_ok-persist.ensures.frame first second (journal.kept fresh tidy) is in
    let new = g.F.Flash.chip c.migrated.new.flash in
    mount_kept old mid read c.in_ok-journal.journal p c.in_ok-persist.ensures.frame first second (journal.kept fresh tidy) is records holds new c.in_ok-journal-2.journal (c.in_ok-journal-2.ensures.kept is.records exact)

-- Where no store may be mounted, each exit before the migration leaves the flash and its counts, and none behind it is reached.

pub returns-in_err-journal-clause-finding : goal.returns-in_err-journal-clause-finding
returns-in_err-journal-clause-finding g c honest fault found =
    let old = g.F.Flash.chip c.args.flash.now in
    let mid = g.F.Flash.chip c.mount.new.flash in
    let journal = c.in_err-journal.ensures in
    (journal.stays honest, same_count old mid journal.calls journal.unerased journal.unprogrammed)

pub returns-in_err-persist-clause-finding : goal.returns-in_err-persist-clause-finding
returns-in_err-persist-clause-finding g c honest fault found =
    let old = g.F.Flash.chip c.args.flash.now in
    let mid = g.F.Flash.chip c.mount.new.flash in
    let read = g.F.Flash.chip c.read_records.new.flash in
    let journal = c.in_ok-journal.ensures in
    let persist = c.in_err-persist.ensures in
    (stays_more old mid read (journal.stays honest) (persist.stays (journal.frame.honest ∙ honest)), same_count old read (persist.calls ∙ journal.calls) (persist.unerased ∙ journal.unerased) (persist.unprogrammed ∙ journal.unprogrammed))

pub returns-then-persist-clause-finding : goal.returns-then-persist-clause-finding
returns-then-persist-clause-finding g c honest fault found =
    let old = g.F.Flash.chip c.args.flash.now in
    let mid = g.F.Flash.chip c.mount.new.flash in
    let read = g.F.Flash.chip c.read_records.new.flash in
    let journal = c.in_ok-journal.ensures in
    let persist = c.in_ok-persist.ensures in
    (stays_more old mid read (journal.stays honest) (persist.stays (journal.frame.honest ∙ honest)), same_count old read (persist.calls ∙ journal.calls) (persist.unerased ∙ journal.unerased) (persist.unprogrammed ∙ journal.unprogrammed))

pub returns-in_err-journal-2-clause-finding : goal.returns-in_err-journal-2-clause-finding
returns-in_err-journal-2-clause-finding g c honest fault found =
    let old = g.F.Flash.chip c.args.flash.now in
    let mid = g.F.Flash.chip c.mount.new.flash in
    let journal = c.in_ok-journal.ensures in
    let p = c.in_ok-persist.persist in
    absurd (none_found old.now p fault (store_mounted old mid c.in_ok-journal.journal journal.frame journal.stays journal.mounted p journal.value c.in_ok-persist.ensures.value honest c.if-persist.false) found)

pub returns-clause-finding : goal.returns-clause-finding
returns-clause-finding g c honest fault found =
    let old = g.F.Flash.chip c.args.flash.now in
    let mid = g.F.Flash.chip c.mount.new.flash in
    let journal = c.in_ok-journal.ensures in
    let p = c.in_ok-persist.persist in
    absurd (none_found old.now p fault (store_mounted old mid c.in_ok-journal.journal journal.frame journal.stays journal.mounted p journal.value c.in_ok-persist.ensures.value honest c.if-persist.false) found)

-- A Node Reset is one of these.

pub returns-in_err-journal-clause-reset : goal.returns-in_err-journal-clause-reset
returns-in_err-journal-clause-reset g c honest = returns-in_err-journal-clause-finding g c honest F.WasReset

pub returns-in_err-persist-clause-reset : goal.returns-in_err-persist-clause-reset
returns-in_err-persist-clause-reset g c honest = returns-in_err-persist-clause-finding g c honest F.WasReset

pub returns-then-persist-clause-reset : goal.returns-then-persist-clause-reset
returns-then-persist-clause-reset g c honest = returns-then-persist-clause-finding g c honest F.WasReset

pub returns-in_err-journal-2-clause-reset : goal.returns-in_err-journal-2-clause-reset
returns-in_err-journal-2-clause-reset g c honest = returns-in_err-journal-2-clause-finding g c honest F.WasReset

pub returns-clause-reset : goal.returns-clause-reset
returns-clause-reset g c honest = returns-clause-finding g c honest F.WasReset

pub returns-clause-wear : goal.returns-clause-wear
returns-clause-wear g c honest =
    let old = g.F.Flash.chip c.args.flash.now in
    let read = g.F.Flash.chip c.read_records.new.flash in
    let new = g.F.Flash.chip c.migrated.new.flash in
    let journal = c.in_ok-journal.ensures in
    let persist = c.in_ok-persist.ensures in
    let migrated = c.in_ok-journal-2.ensures in
    let most = migrated.most_calls in
    let erased = migrated.most_erases in
    let given = migrated.most_octets in
    let same = persist.calls ∙ journal.calls in
    let unerased = persist.unerased ∙ journal.unerased in
    let unprogrammed = persist.unprogrammed ∙ journal.unprogrammed in
    opened_with old.now c.in_ok-journal.journal _ (journal.value honest) (journal.mounted honest) (count_of old) (count_of new) c.in_ok-journal-2.journal.used (omega (arith, most, same)) (omega (arith, erased, unerased)) (omega (arith, given, unprogrammed))
    (λ other. (ap (λ f. count_of (g.F.Flash.chip f)) (migrated.unchanged other) ∙ same_count old read same unerased unprogrammed, migrated.used other)) migrated.room
