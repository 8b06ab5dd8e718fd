use Rattle.std.proofs.Common.{◌≡◌, ◌≤◌, List, ℕ, sym, subst, map, length, arith}
use Rattle.rtl_tree.specs.TreeModule.{Circuit, circuit}
use Rattle.rtl_front.specs.declared.fault.SourceFault.{SourceFault}
use Rattle.source_file.specs.SourceFiles.{texts_in}
use Rattle.rtl_front.specs.Fronts.{IsAsked, IsFaulty, IsFirstFaulty, IsRead}
use Rattle.rtl_front.proofs.Asked.{all_asked, one_more as asks_more}
use Rattle.rtl_front.proofs.Reading.{all_only, all_read, one_more, stopped}
use Rattle.rtl_front.proofs.files.read_files.Goals as goal

pub returns-in-Err-clause-fault : goal.returns-in-Err-clause-fault
returns-in-Err-clause-fault g c =
    subst
    (λ (fault : SourceFault). IsFirstFaulty (texts_in c.args.sources.now) fault)
    (sym c.told.ensures)
    (stopped
    c.args.sources.now
    c.loop-number.number
    c.index-sources-number.result
    c.loop-number.files.modules.items
    c.in-Err.fault
    c.loop-number-test.true
    c.index-sources-number.is
    (subst (λ (text : List ℕ). IsFaulty text c.in-Err.fault) c.as_bytes.ensures c.in-Err.ensures.fault)
    c.loop-number.invariant.so_far)

pub loop-number-preserved : goal.loop-number-preserved
loop-number-preserved g c = record {
  so_far =
      one_more
      c.args.sources.now
      c.loop-number.number
      c.index-sources-number.result
      c.loop-number.files.modules.items
      c.push.new.self.modules.items
      c.in-Ok.file.modules
      c.loop-number-test.true
      c.index-sources-number.is
      (subst (λ (text : List ℕ). IsRead text (map circuit c.in-Ok.file.modules.items)) c.as_bytes.ensures c.in-Ok.ensures.read)
      (subst
      (λ (text : List ℕ). (circuits : List Circuit) → IsRead text circuits → circuits ≡ map circuit c.in-Ok.file.modules.items)
      c.as_bytes.ensures
      c.in-Ok.ensures.only)
      c.in_ok-push-in-Ok.ensures.modules
      c.loop-number.invariant.so_far;
  asked =
      asks_more
      c.args.sources.now
      c.loop-number.number
      c.index-sources-number.result
      c.loop-number.files.conditions.items
      c.push.new.self.conditions.items
      c.in-Ok.file.conditions
      c.loop-number-test.true
      c.index-sources-number.is
      (subst (λ (text : List ℕ). IsAsked text c.in-Ok.file.conditions) c.as_bytes.ensures c.in-Ok.ensures.asked)
      c.in_ok-push-in-Ok.ensures.conditions
      c.loop-number.invariant.asked;
  few = omega (arith, c.in-Ok.ensures.counted, c.loop-number.invariant.few);
}

pub returns-clause-read : goal.returns-clause-read
returns-clause-read g c =
    let end : length c.args.sources.now ≤ c.loop-number.number = omega arith in
    all_read c.args.sources.now c.loop-number.number c.loop-number.files.modules.items end c.loop-number.invariant.so_far

pub returns-clause-only : goal.returns-clause-only
returns-clause-only g c =
    let end : length c.args.sources.now ≤ c.loop-number.number = omega arith in
    all_only c.args.sources.now c.loop-number.number c.loop-number.files.modules.items end c.loop-number.invariant.so_far

pub returns-clause-asked : goal.returns-clause-asked
returns-clause-asked g c =
    let end : length c.args.sources.now ≤ c.loop-number.number = omega arith in
    all_asked c.args.sources.now c.loop-number.number c.loop-number.files.conditions.items end c.loop-number.invariant.asked
