use Rattle.std.proofs.Common.{◌≡◌, ◌∙◌, ℕ, ap, sym, subst, if◌then◌else◌, []}
use Rattle.std.specs.Ordering.{nat_cmp}
use Rattle.std.specs.BTreeMap.{get}
use Rattle.std.proofs.lemmas.Option.{same_Some}
use Rattle.std.proofs.lemmas.Result.{on_ok_weaker}
use Rattle.rtl_flat.specs.Flats.{flat}
use Rattle.net_model.specs.Gates.{InCone}
use Rattle.rtl_flat.specs.Process.{Task, task}
use Rattle.check_gates.specs.Admitted.{gates_of}
use Rattle.check_gates.specs.check_chains.check_found.Gathered.{Gets, signal_numbers, task_sites}
use Rattle.check_gates.specs.check_chains.check_found.Marked.{least_of}
use Rattle.check_gates.proofs.check_chains_proofs.check_found_proofs.Sites.{task_at}
use Rattle.check_clocks.specs.Clocks.{IsClockAsData, clock_as_data_at}
use Rattle.check_clocks.specs.Uses.{is_gate_in, places_of, ungated}
use Rattle.check_clocks.proofs.AsData.{data_gets}
use Rattle.check_clocks.proofs.clock_data.push_process.Goals as goal

pub ungated-requires : goal.ungated-requires
ungated-requires c = (flat c.args.design.now, c.requires.gates)

pub returns : goal.returns
returns c =
    let d = flat c.args.design.now in
    let p = c.args.p.0 in
    let gates = gates_of c.args.gates.now in
    let process = c.index-process.result.now in
    let one = task process in
    let at = task_at c.args.design.now p process c.requires.inside c.index-process.ensures in
    let firsts = λ (s : ℕ). get nat_cmp c.in_ok-firsts.firsts.spots s in
    on_ok_weaker c.push.result (λ shows other there.
    let same : one ≡ other = same_Some one other (sym at ∙ there) in
    subst (λ (t : Task). Gets (IsClockAsData (InCone d) d) (clock_as_data_at d) (task_sites (signal_numbers d) p t) c.args.found.now.items c.push.new.found.items) same
    (data_gets (InCone d) d c.args.in_cone.now c.requires.marks gates c.requires.gates c.requires.size p one firsts
    (λ s. c.in_ok-firsts.ensures s ∙ ap (λ uses. least_of (places_of s uses)) c.deref-2.ensures.value ∙ ap least_of (c.in_ok-others.ensures s) ∙ ap (λ uses. least_of (ungated gates p s uses)) c.deref.ensures.value ∙ ap (λ l. least_of (if is_gate_in gates p s then [] else l)) (c.in_ok-uses.ensures p s))
    c.args.found.now.items c.push.new.found.items shows))
    c.push.ensures
