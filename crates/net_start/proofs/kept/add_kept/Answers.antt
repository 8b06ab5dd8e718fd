use Rattle.std.proofs.Common.{◌≡◌, ◌∙◌, ◌||◌, true, Some, sym, ap}
use Rattle.std.specs.List.{slice_get}
use Rattle.std.proofs.lemmas.Result.{IfOk-weaker}
use Rattle.rtl_flat.specs.declared.act.Does.{Does}
use Rattle.rtl_flat.specs.Process.{doing, task}
use Rattle.rtl_flat.specs.Flats.{flat}
use Rattle.check_found.specs.rtl_scan.Sets.{has}
use Rattle.check_found.proofs.Sites.{task_at}
use Rattle.net_start.proofs.Keeping.{comb, edged, kept_comb, kept_edge}
use Rattle.net_start.proofs.kept.add_kept.Goals as goal

pub returns-in-Comb : goal.returns-in-Comb
returns-in-Comb c =
    let design = c.args.design.now in
    let d = flat design in
    let p = c.args.p.0 in
    let process = c.index.result.now in
    let there : slice_get d.tasks p ≡ Some (task process) = task_at design p process c.requires.there c.index.ensures in
    let is : comb (doing process.does) ≡ true = ap (λ (does : Does). comb (doing does)) c.in-Comb.is in
    IfOk-weaker c.add_latched.result _ _
    (λ _ made s k. made (task process) there s k ∙ ap (λ b. has c.args.bits.now.masks s k || b) (sym (kept_comb d p (task process) there s k is)))
    c.add_latched.ensures

pub returns-in-Edge : goal.returns-in-Edge
returns-in-Edge c =
    let design = c.args.design.now in
    let d = flat design in
    let p = c.args.p.0 in
    let process = c.index.result.now in
    let there : slice_get d.tasks p ≡ Some (task process) = task_at design p process c.requires.there c.index.ensures in
    let is : edged (doing process.does) ≡ true = ap (λ (does : Does). edged (doing does)) c.in-Edge.is in
    IfOk-weaker c.add_written.result _ _
    (λ _ made s k. made (task process) there s k ∙ ap (λ b. has c.args.bits.now.masks s k || b) (sym (kept_edge d p (task process) there s k is)))
    c.add_written.ensures
