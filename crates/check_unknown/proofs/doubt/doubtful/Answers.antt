use Rattle.std.proofs.Common.{rules, ℕ, ◌≡◌, ◌∙◌, ◌<◌, [], Bool, false, List, length, replicate, sym, ap, subst, refl, arith}
use Rattle.std.proofs.lemmas.List.{length-replicate}
use Rattle.rtl_flat.specs.Flats.{flat}
use Rattle.check_chains.proofs.rtl_scan_proofs.Processes.{length-tasks}
use Rattle.check_chains.proofs.rtl_scan_proofs.Users.{written_back}
use Rattle.check_unknown.specs.declared.doubt.Spread.{Spread}
use Rattle.check_unknown.specs.Spreading.{Among, IsSpreading, Reaches, bucket}
use Rattle.check_unknown.proofs.Worklist.{bucket_get, is_reader, popped, reached, spread_all, spreading_first, waits_marked}
use Rattle.check_unknown.proofs.doubt.doubtful.Goals as goal

pub loop-signal-init : goal.loop-signal-init
loop-signal-init c =
    let d = flat c.args.scans.now.design.now in
    let processes = c.args.scans.now.design.now.processes in
    let unseen : c.in_ok-seen.seen.items ≡ replicate c.len.result false
    = c.in_ok-seen.ensures.items_if_clones_equal (λ y e. search rules) in
    let same = ap length unseen ∙ length-replicate c.len.result false in (
      spreading_first d c.in_ok-spread.spread (length processes.items) c.len.result (length-tasks processes.items) c.in_ok-seen.seen.items unseen c.in_ok-spread.ensures,
      omega (arith, same, c.len.ensures, processes.ok.0),
    )

pub index-requires : goal.index-requires
index-requires c =
    let d = flat c.args.scans.now.design.now in
    let table = c.in_ok-readers.readers in
    let (inside, doubtful) = waits_marked d c.loop-signal.seen.items c.loop-signal.spread c.in-Some.signal c.pop.new.self.items c.in-Some.ensures.items c.loop-signal.invariant.0 in
    omega (arith, inside, c.in_ok-readers.ensures.same_length, table.ok.0)

pub visit_all-requires-clause-readers : goal.visit_all-requires-clause-readers
visit_all-requires-clause-readers c =
    let d = flat c.args.scans.now.design.now in
    let table = c.in_ok-readers.readers.items in
    let signal = c.in-Some.signal in
    let (below, doubtful) = waits_marked d c.loop-signal.seen.items c.loop-signal.spread signal c.pop.new.self.items c.in-Some.ensures.items c.loop-signal.invariant.0 in
    let inside : signal < length table = omega (arith, below, c.in_ok-readers.ensures.same_length) in
    let row : c.deref-in-Some.result.now ≡ bucket table signal
    = c.deref-in-Some.ensures.value ∙ ap (λ v. v.items) c.index.ensures ∙ bucket_get table signal _ inside in
    λ p h. is_reader d _ table c.in_ok-readers.ensures signal doubtful p (subst (λ (xs : List ℕ). Among xs p) row h)

pub loop-signal-preserved : goal.loop-signal-preserved
loop-signal-preserved c =
    let d = flat c.args.scans.now.design.now in
    let processes = c.args.scans.now.design.now.processes.items in
    let table = c.in_ok-readers.readers.items in
    let signal = c.in-Some.signal in
    let old = c.loop-signal.seen.items in
    let new = c.visit_all.new.seen in
    let (below, doubtful) = waits_marked d old c.loop-signal.spread signal c.pop.new.self.items c.in-Some.ensures.items c.loop-signal.invariant.0 in
    let inside : signal < length table = omega (arith, below, c.in_ok-readers.ensures.same_length) in
    let row : c.deref-in-Some.result.now ≡ bucket table signal
    = c.deref-in-Some.ensures.value ∙ ap (λ v. v.items) c.index.ensures ∙ bucket_get table signal _ inside in
    let now : Spread = record { marked = c.loop-signal.spread.marked; waiting = c.pop.new.self } in
    let reach : Reaches d (bucket table signal) old now new c.visit_all.new.spread
    = subst (λ (xs : List Bool). Reaches d (bucket table signal) xs now new c.visit_all.new.spread) c.deref_mut.ensures.value (subst (λ (xs : List ℕ). Reaches d xs c.deref_mut.result.now now new c.visit_all.new.spread) row c.in_ok-visit_all.ensures) in
    let back = written_back old new c.loop-signal.seen.len reach.same_length c.loop-signal.seen.ok.0 in
    let before = popped d old c.loop-signal.spread now signal refl c.in-Some.ensures.items c.loop-signal.invariant.0 in
    let after = reached d (length processes) table (length-tasks processes) c.in_ok-readers.ensures signal old now new c.visit_all.new.spread reach before in (
      subst (λ (xs : List Bool). IsSpreading d (length d.signals) xs c.visit_all.new.spread) (sym back) after,
      ap length back ∙ reach.same_length ∙ c.loop-signal.invariant.1,
    )

pub returns-clause-each : goal.returns-clause-each
returns-clause-each c =
    let none : c.loop-signal.spread.waiting.items ≡ [] = search rules in
    spread_all (flat c.args.scans.now.design.now) c.loop-signal.seen.items c.loop-signal.spread c.loop-signal.invariant.0 none
