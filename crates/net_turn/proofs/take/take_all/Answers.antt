use Rattle.std.proofs.Common.{◌≡◌, ◌∙◌, ◌<◌, ℕ, None, length, sym, ap, subst, arith}
use Rattle.std.proofs.Math.Path.{fun_ext}
use Rattle.std.proofs.lemmas.List.{get_or-map, length-map}
use Rattle.std.proofs.lemmas.List.Elements.{All-get_or}
use Rattle.rtl_bits.specs.Bits.{tabulate}
use Rattle.rtl_flat.specs.Value.{store}
use Rattle.rtl_flat.specs.Flats.{flat, widths}
use Rattle.net_model.specs.Numbers.{AreNumbers}
use Rattle.net_list.specs.declared.clocked.Clocked.{Clocked}
use Rattle.net_settle.proofs.Lawful.{lawful_flat}
use Rattle.net_settle.specs.net_body.Ends.{changed_digits}
use Rattle.net_turn.specs.Runs.{Run, run_at, run_bit, run_from, run_of, runs_of, numbers_with}
use Rattle.net_turn.specs.Sources.{CanRun}
use Rattle.net_turn.proofs.Chosen.{run_part}
use Rattle.net_turn.proofs.Put.{more_put, new_numbers}
use Rattle.net_turn.proofs.take.take_all.Goals as goal

pub loop-one-preserved : goal.loop-one-preserved
loop-one-preserved c =
    let design = c.args.maps.now.design.now in
    let d = flat design in
    let ws = widths d in
    let f = c.args.fill in
    let clocked = c.args.clocked.now in
    let j = c.loop-one.one-index in
    let one = c.one-item.result in
    let old = store c.args.before.now in
    let new = numbers_with old c.args.turn.now in
    let after = store c.loop-one.after in
    let after' = store c.take_one.new.after in
    let below : j < length clocked = omega arith in
    let can = subst (λ (x : Clocked). CanRun design x) (sym c.one-item.is) (All-get_or (CanRun design) clocked j one below c.requires.can) in
    let are : AreNumbers d old = subst (λ n. AreNumbers d n) (fun_ext c.requires.same) c.requires.able.numbers in
    let is : (i : ℕ) → after' i ≡ changed_digits (old i) (tabulate (ws i) (run_bit ws f old (run_of old new one) i)) (after i)
    = subst (λ r. (i : ℕ) → after' i ≡ changed_digits (old i) (tabulate (widths (flat r.now) i) (run_bit (widths (flat r.now)) f old (run_of old new one) i)) (after i)) c.loop-one.invariant.1 c.take_one.ensures.after in
    let runs = runs_of old new clocked in
    let count = length-map clocked (run_from old new) in
    let here : run_at runs j ≡ run_from old new one = get_or-map (run_from old new) clocked j one (record { process = 0; body = None }) below ∙ ap (run_from old new) (sym c.one-item.is) in (
      c.take_one.ensures.able,
      c.take_one.ensures.design ∙ c.loop-one.invariant.1,
      new_numbers d f old are (run_of old new one) (λ body e. can.lawful body (run_part old new one body e)) after after' c.loop-one.invariant.2 is,
      c.take_one.ensures.same,
      (λ are_runs.
          more_put d f old are (lawful_flat design) c.requires.apart runs are_runs j (omega (arith, below, count)) after after' c.loop-one.invariant.2
          (subst (λ (r : Run). (i : ℕ) → after' i ≡ changed_digits (old i) (tabulate (ws i) (run_bit ws f old r.body i)) (after i)) (sym here) is)
          (c.loop-one.invariant.4 are_runs)),
    )
