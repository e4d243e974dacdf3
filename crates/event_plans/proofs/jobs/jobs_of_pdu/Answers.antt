use Rattle.event_plans.proofs.Asked.{act_still, heard_fits}
use Rattle.mesh_reading.specs.Held.{pdu_insight}
use Rattle.node_records.specs.Tables.{config_in}
use Rattle.event_plans.proofs.jobs.jobs_of_pdu.Goals as goal

pub pdu_jobs-requires-clause-fits : goal.pdu_jobs-requires-clause-fits
pdu_jobs-requires-clause-fits c =
    let (octets, (past, (t, h))) = c.requires.planned in
    heard_fits past octets c.args.plan.now.basis.heard h.sees

pub returns : goal.returns
returns c = record {
  value = λ past octets t h leaves.
      let b = c.args.plan.now.basis in
      let a = c.args.plan.now.answer in
      c.pdu_jobs.ensures.value past octets h.basis.0 h.basis.1
      (act_still past (config_in c.args.p.now) (pdu_insight b.heard) a b.act leaves h.basis.2);
}
