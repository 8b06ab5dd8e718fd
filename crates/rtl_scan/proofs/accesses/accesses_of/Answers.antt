use Rattle.std.proofs.Common.{◌≡◌, ◌∙◌, ◌+◌, map, length, sym, subst, arith, List}
use Rattle.rtl_flat.specs.Signs.{width_in}
use Rattle.rtl_flat.specs.Process.{task}
use Rattle.rtl_flat.specs.Paths.{MayWrite, ReadsOutside}
use Rattle.rtl_flat.specs.PathSets.{Lists, OfProcess}
use Rattle.rtl_scan.specs.declared.usages.Usage.{Usage}
use Rattle.rtl_scan.specs.Accesses.{AreOfEach}
use Rattle.rtl_scan.specs.Usage.{AreAnswers, AreUsages, IsNotedIn}
use Rattle.rtl_scan.proofs.Accessed.{listed_bits, of_next, read_bits, written_bits}
use Rattle.rtl_scan.proofs.Processes.{length-tasks, task_at}
use Rattle.rtl_scan.proofs.Users.{answer_is, usages_more, written_back}
use Rattle.rtl_scan.proofs.accesses.accesses_of.Goals as goal

pub loop-number-preserved : goal.loop-number-preserved
loop-number-preserved c =
    let n = c.loop-number.number in
    let old = c.loop-number.usages.items in
    let new = c.note.new.usages in
    let processes = c.args.processes.now in
    let signals = c.args.widths.signals.now in
    let tasks = map task processes in
    let one = c.index-processes-number.result in
    let is = c.index-processes-number.is in
    let inside = c.loop-number-test.true in
    let access = c.in_ok-access.access in
    let has = c.in_ok-access.ensures.access in
    let is_noted : IsNotedIn (width_in signals) (task one) n old new
    = subst (λ (us : List Usage). IsNotedIn (width_in signals) (task one) n us new) c.deref_mut.ensures.value c.in_ok-access.ensures.noted in (
      of_next (OfProcess ReadsOutside signals tasks) n c.loop-number.reads.items c.push.new.self.items access.reads c.loop-number.invariant.0
          (read_bits signals processes n one inside is access has) c.in_ok-push.ensures.items,
      of_next (OfProcess MayWrite signals tasks) n c.loop-number.writes.items c.push-in-loop-number.new.self.items access.writes c.loop-number.invariant.1
          (written_bits signals processes n one inside is access has) c.in_ok-push-2.ensures.items,
      of_next (Lists signals tasks) n c.loop-number.lists.items c.push-in-loop-number-2.new.self.items access.lists c.loop-number.invariant.2
          (listed_bits signals processes n one inside is access has) c.in_ok-push-3.ensures.items,
      subst (λ (us : List Usage). AreUsages signals tasks (n + 1) us) (sym (written_back old new c.loop-number.usages.len is_noted.same_length c.loop-number.usages.ok.0))
          (usages_more signals tasks n (task one) (task_at processes n one inside is) old new c.loop-number.invariant.3 is_noted),
    )

pub returns : goal.returns
returns c =
    let processes = c.args.processes.now in
    let signals = c.args.widths.signals.now in
    let tasks = map task processes in
    let all : c.loop-number.number ≡ length processes = omega arith in
    let count : c.loop-number.number ≡ length tasks = all ∙ length-tasks processes in
    let usages = c.loop-number.usages.items in
    let answers = c.in_ok-temporaries.temporaries.items in
    let are : AreAnswers signals usages (length signals) answers
    = subst (λ (us : List Usage). AreAnswers signals us (length signals) answers) c.deref.ensures.value c.in_ok-temporaries.ensures in
    record {
      reads = subst (λ n. AreOfEach (OfProcess ReadsOutside signals tasks) n c.loop-number.reads.items) count c.loop-number.invariant.0;
      writes = subst (λ n. AreOfEach (OfProcess MayWrite signals tasks) n c.loop-number.writes.items) count c.loop-number.invariant.1;
      lists = subst (λ n. AreOfEach (Lists signals tasks) n c.loop-number.lists.items) count c.loop-number.invariant.2;
      each_signal = are.same_length;
      temporaries = answer_is signals tasks c.loop-number.number usages answers count c.loop-number.invariant.3 are;
    }
