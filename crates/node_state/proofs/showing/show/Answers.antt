use Rattle.std.proofs.Common.{◌≡◌, ◌∙◌, List, ℕ, length, sym, ap, subst}
use Rattle.flash_model.proofs.Runs.{keeps_more, stays_more}
use Rattle.node_state.proofs.Mounted.{cause_of}
use Rattle.node_state.proofs.showing.show.Goals as goal
use Rattle.node_state.specs.State.{shown_of, state_text_of}
use Rattle.store_definitions.specs.Config.{Config}

pub returns-in-Err-mount-clause-cause : goal.returns-in-Err-mount-clause-cause
returns-in-Err-mount-clause-cause g c =
    let read = c.in-Ok.ensures in
    subst (λ e. Rattle.node_store.specs.Images.IsImageCause (g.F.Flash.chip c.args.flash.now) (g.F.Flash.chip c.mount.new.flash) e) (sym c.mount_fault.ensures.value)
    (cause_of (g.F.Flash.chip c.args.flash.now) (g.F.Flash.chip c.read_image.new.flash) (g.F.Flash.chip c.mount.new.flash) c.in-Err-mount.fault
    read.no_fault read.frame.honest (λ is. (read.stays is).now) c.in-Err-mount.ensures.cause)

pub returns-in-Err-mount-clause-stays : goal.returns-in-Err-mount-clause-stays
returns-in-Err-mount-clause-stays g c honest =
    let read = c.in-Ok.ensures in
    stays_more (g.F.Flash.chip c.args.flash.now) (g.F.Flash.chip c.read_image.new.flash) (g.F.Flash.chip c.mount.new.flash) (read.stays honest) (c.mount.ensures.stays (read.frame.honest ∙ honest))

pub returns-in-Ok-state_text-clause-value : goal.returns-in-Ok-state_text-clause-value
returns-in-Ok-state_text-clause-value g c honest =
    let read = c.in-Ok.ensures in
    let value = read.value honest in
    let now = (read.stays honest).now in
    let journal = c.in-Ok-mount.journal in
    record {
      records = value.records;
      read = value.read;
      value = c.in-Ok.persist;
      meaning = value.meaning;
      bank = journal.bank;
      slots = journal.used;
      format = journal.version;
      held = subst (λ (o : List ℕ). Rattle.slot_definitions.specs.Slots.recovered o ≡ Rattle.std.specs.Prelude.Some (record { format = journal.version; slots = Rattle.slot_definitions.specs.Slots.slots_to o journal.bank journal.used })) now
          (c.in-Ok-mount.ensures.value (read.frame.honest ∙ honest));
      is = c.in-Ok-state_text.ensures.value
          ∙ ap (λ (d : Config). state_text_of (shown_of d (length c.in-Ok.persist.replay) c.used.result c.version.result)) value.meaning.config
          ∙ ap (λ n. state_text_of (shown_of (Rattle.store_definitions.specs.Config.config_of value.records) (length c.in-Ok.persist.replay) n c.version.result)) c.used.ensures.value
          ∙ ap (λ n. state_text_of (shown_of (Rattle.store_definitions.specs.Config.config_of value.records) (length c.in-Ok.persist.replay) journal.used n)) c.version.ensures.value;
    }

pub returns-in-Ok-state_text-clause-stays : goal.returns-in-Ok-state_text-clause-stays
returns-in-Ok-state_text-clause-stays g c honest =
    let read = c.in-Ok.ensures in
    stays_more (g.F.Flash.chip c.args.flash.now) (g.F.Flash.chip c.read_image.new.flash) (g.F.Flash.chip c.mount.new.flash) (read.stays honest) (c.mount.ensures.stays (read.frame.honest ∙ honest))

pub returns-in-Err-state_text-clause-stays : goal.returns-in-Err-state_text-clause-stays
returns-in-Err-state_text-clause-stays g c honest =
    let read = c.in-Ok.ensures in
    stays_more (g.F.Flash.chip c.args.flash.now) (g.F.Flash.chip c.read_image.new.flash) (g.F.Flash.chip c.mount.new.flash) (read.stays honest) (c.mount.ensures.stays (read.frame.honest ∙ honest))

pub returns-in-Ok-state_text-clause-frame : goal.returns-in-Ok-state_text-clause-frame
returns-in-Ok-state_text-clause-frame g c =
    keeps_more (g.F.Flash.chip c.args.flash.now) (g.F.Flash.chip c.read_image.new.flash) (g.F.Flash.chip c.mount.new.flash) c.read_image.ensures.frame c.mount.ensures.frame
