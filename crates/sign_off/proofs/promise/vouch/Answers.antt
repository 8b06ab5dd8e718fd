use Rattle.std.proofs.Common.{refl, subst}
use Rattle.std.specs.Prelude.{[]}
use Rattle.rtl_flat.specs.Flats.{flat, parts}
use Rattle.sign_firm.specs.check_clean.check_all.Findings.{AreAllFindings}
use Rattle.sign_firm.proofs.check_clean_proofs.event_laws_proofs.Steady.{lawful_processes}
use Rattle.sign_off.proofs.promise.vouch.Goals as goal

pub returns-clause-promised : goal.returns-clause-promised
returns-clause-promised c =
    let d = c.args.design.now in
    let lawful = lawful_processes (flat d) d.is_design.each_process in
    let marked = c.stored.ensures (flat d) d.processes.items refl in
    c.promised.ensures (parts d) lawful marked c.args.findings.now c.requires

pub returns-clause-hardware : goal.returns-clause-hardware
returns-clause-hardware c =
    c.hardware.ensures (parts c.args.design.now) c.args.findings.now c.requires

pub returns-clause-firm : goal.returns-clause-firm
returns-clause-firm c none =
    let d = c.args.design.now in
    let lawful = lawful_processes (flat d) d.is_design.each_process in
    let marked = c.stored.ensures (flat d) d.processes.items refl in
    let found : AreAllFindings (parts d) [] = subst (AreAllFindings (parts d)) none c.requires in
    record {
      sound = c.sound_by_rules.ensures (parts d) lawful marked found;
      complete = c.complete_by_rules.ensures (parts d) lawful marked found;
    }
