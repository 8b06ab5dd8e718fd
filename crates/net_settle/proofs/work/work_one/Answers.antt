use Rattle.std.proofs.Common.{◌≡◌, ◌∙◌, ℕ, List, Some, map, ap, subst, sym}
use Rattle.rtl_bits.specs.Bits.{tabulate}
use Rattle.rtl_flat.specs.declared.act.Act.{Act}
use Rattle.rtl_flat.specs.Expression.{tree}
use Rattle.rtl_flat.specs.Process.{Assign, Comb, Edge', action, body_of, doing, listing, piece, watched}
use Rattle.rtl_flat.specs.Value.{store}
use Rattle.rtl_flat.specs.WellFormed.{IsBody}
use Rattle.net_body.specs.Ready.{HasRoom}
use Rattle.rtl_flat.specs.Flats.{flat, widths}
use Rattle.net_model.specs.Block.{block_bit}
use Rattle.net_solve.proofs.Same.{of_node}
use Rattle.net_settle.proofs.Able.{able_after, doing_there, node_below}
use Rattle.net_settle.proofs.Lawful.{lawful_flat}
use Rattle.net_settle.proofs.One.{assign_worked, block_worked}
use Rattle.net_settle.proofs.work.work_one.Goals as goal

pub returns-in-Assign-clause-worked : goal.returns-in-Assign-clause-worked
returns-in-Assign-clause-worked c =
    let m = c.args.maps.now in
    let p = c.args.p.0 in
    let here = doing_there m.design.now p c.index.result.now (node_below m.design.now p c.requires.node) c.index.ensures ∙ ap (λ x. Some (doing x)) c.in-Assign.is in
    assign_worked (flat m.design.now) c.args.fill (lawful_flat m.design.now) p (store m.numbers.items) (store c.drive.new.self.numbers.items) c.requires.able.numbers
    (map piece c.in-Assign.target.parts.items) (tree c.in-Assign.value) here c.drive.ensures.numbers

pub returns-in-Assign-clause-able : goal.returns-in-Assign-clause-able
returns-in-Assign-clause-able c =
    let m = c.args.maps.now in
    let p = c.args.p.0 in
    let here = doing_there m.design.now p c.index.result.now (node_below m.design.now p c.requires.node) c.index.ensures ∙ ap (λ x. Some (doing x)) c.in-Assign.is in
    let worked = assign_worked (flat m.design.now) c.args.fill (lawful_flat m.design.now) p (store m.numbers.items) (store c.drive.new.self.numbers.items) c.requires.able.numbers
    (map piece c.in-Assign.target.parts.items) (tree c.in-Assign.value) here c.drive.ensures.numbers in
    able_after m c.drive.new.self c.requires.able c.drive.ensures.ready c.drive.ensures.design c.drive.ensures.room worked.numbers

pub returns-in-Comb-clause-worked : goal.returns-in-Comb-clause-worked
returns-in-Comb-clause-worked c =
    let m = c.args.maps.now in
    let p = c.args.p.0 in
    let here = doing_there m.design.now p c.index.result.now (node_below m.design.now p c.requires.node) c.index.ensures ∙ ap (λ x. Some (doing x)) c.in-Comb.is in
    block_worked (flat m.design.now) c.args.fill (lawful_flat m.design.now) p (store m.numbers.items) (store c.run.new.self.numbers.items) c.requires.able.numbers
    (listing c.in-Comb.list) (body_of (map action c.in-Comb.body.items)) here
    (subst (λ (xs : List Act). (i : ℕ) → store c.run.new.self.numbers.items i ≡ tabulate (widths (flat m.design.now) i) (λ k. block_bit (widths (flat m.design.now)) c.args.fill (store m.numbers.items) (body_of (map action xs)) i k))
    c.deref.ensures.value c.run.ensures.numbers)

pub returns-in-Comb-clause-able : goal.returns-in-Comb-clause-able
returns-in-Comb-clause-able c =
    let m = c.args.maps.now in
    let p = c.args.p.0 in
    let here = doing_there m.design.now p c.index.result.now (node_below m.design.now p c.requires.node) c.index.ensures ∙ ap (λ x. Some (doing x)) c.in-Comb.is in
    let worked = block_worked (flat m.design.now) c.args.fill (lawful_flat m.design.now) p (store m.numbers.items) (store c.run.new.self.numbers.items) c.requires.able.numbers
    (listing c.in-Comb.list) (body_of (map action c.in-Comb.body.items)) here
    (subst (λ (xs : List Act). (i : ℕ) → store c.run.new.self.numbers.items i ≡ tabulate (widths (flat m.design.now) i) (λ k. block_bit (widths (flat m.design.now)) c.args.fill (store m.numbers.items) (body_of (map action xs)) i k))
    c.deref.ensures.value c.run.ensures.numbers) in
    able_after m c.run.new.self c.requires.able c.run.ensures.ready c.run.ensures.design c.run.ensures.room worked.numbers

pub returns-in-Edge-clause-worked : goal.returns-in-Edge-clause-worked
returns-in-Edge-clause-worked c =
    let m = c.args.maps.now in
    let p = c.args.p.0 in
    let here = doing_there m.design.now p c.index.result.now (node_below m.design.now p c.requires.node) c.index.ensures ∙ ap (λ x. Some (doing x)) c.in-Edge.is in
    absurd (of_node (flat m.design.now) p (Edge' (map watched c.in-Edge.events.items) (body_of (map action c.in-Edge.body.items))) here c.requires.node)

pub drive-requires-clause-assignment : goal.drive-requires-clause-assignment
drive-requires-clause-assignment c =
    let m = c.args.maps.now in
    let p = c.args.p.0 in
    let here = doing_there m.design.now p c.index.result.now (node_below m.design.now p c.requires.node) c.index.ensures ∙ ap (λ x. Some (doing x)) c.in-Assign.is in
    lawful_flat m.design.now p (Assign (map piece c.in-Assign.target.parts.items) (tree c.in-Assign.value)) here

pub run-requires-clause-body : goal.run-requires-clause-body
run-requires-clause-body c =
    let m = c.args.maps.now in
    let p = c.args.p.0 in
    let here = doing_there m.design.now p c.index.result.now (node_below m.design.now p c.requires.node) c.index.ensures ∙ ap (λ x. Some (doing x)) c.in-Comb.is in
    subst (λ (xs : List Act). IsBody m.design.now.signals.items (body_of (map action xs))) (sym c.deref.ensures.value)
    (lawful_flat m.design.now p (Comb (listing c.in-Comb.list) (body_of (map action c.in-Comb.body.items))) here).1

pub run-requires-clause-room : goal.run-requires-clause-room
run-requires-clause-room c =
    let m = c.args.maps.now in
    let p = c.args.p.0 in
    let here = doing_there m.design.now p c.index.result.now (node_below m.design.now p c.requires.node) c.index.ensures ∙ ap (λ x. Some (doing x)) c.in-Comb.is in
    subst (λ (xs : List Act). HasRoom m (body_of (map action xs))) (sym c.deref.ensures.value)
    (c.requires.able.blocks p (listing c.in-Comb.list) (body_of (map action c.in-Comb.body.items)) here)
