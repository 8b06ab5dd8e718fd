use Rattle.std.proofs.Common.{◌≡◌, ◌∙◌, ◌<◌, ◌≤◌, ◌&&◌, not, true, Some, length, refl, sym, ap, subst, arith}
use Rattle.std.specs.Prelude.{◌↔◌, ◌==◌}
use Rattle.std.specs.List.{slice_get}
use Rattle.rtl_bits.specs.Bits.{is_one_at}
use Rattle.rtl_flat.specs.PathSets.{IsTemporary}
use Rattle.rtl_flat.specs.Flats.{flat}
use Rattle.check_found.proofs.Sites.{read_at}
use Rattle.net_start.specs.Stored.{IsStored, places}
use Rattle.net_start.proofs.Listed.{all_below, few_more, next_below}
use Rattle.net_start.proofs.Started.{stored_is, stored_there}
use Rattle.net_start.proofs.stored.stored.Goals as goal

pub loop-number-preserved : goal.loop-number-preserved
loop-number-preserved c =
    let d = flat c.args.design.now in
    let n = c.loop-number.number in
    let found = c.loop-number.found.items in
    let answers = c.in_ok-temporaries.temporaries.items in
    let temporary = c.index.result.now in
    let count : c.len-number-end.result ≡ length d.signals = c.len-number-end.ensures ∙ c.args.design.now.signals.ok.0 in
    let long = c.in_ok-temporaries.ensures.length in
    let inside : n < length answers = omega (arith, count, long) in
    let at : slice_get answers n ≡ Some temporary = read_at answers n temporary inside c.index.ensures in
    let each = c.in_ok-temporaries.ensures.each n in
    let answer : temporary ≡ true ↔ IsTemporary d.signals d.tasks n
    = (λ h. each.0 (at ∙ ap Some h), λ is. let same = sym at ∙ each.1 is in cc) in
    let e = c.is_stored-holds.ensures ∙ ap (λ v. v && (not (c.mask.result == 0) && not temporary)) c.is_variable-variable.ensures in
    let decides : c.is_stored-holds.result ≡ true ↔ IsStored d n
    = subst (λ b. b ≡ true ↔ IsStored d n) (sym e)
    (stored_is d n c.mask.result temporary (λ k. ap (λ m. is_one_at m k) c.mask.ensures ∙ c.in_ok-kept.ensures n k) answer) in
    record {
      below = next_below (IsStored d) n found c.push_if.new.found.items (record { 0 = n }) c.is_stored-holds.result refl decides c.in_ok-push_if.ensures c.loop-number.invariant.below;
      few = few_more found c.push_if.new.found.items (record { 0 = n }) c.is_stored-holds.result n c.in_ok-push_if.ensures c.loop-number.invariant.few;
    }

pub returns-clause-all : goal.returns-clause-all
returns-clause-all c =
    let d = flat c.args.design.now in
    let count : c.len-number-end.result ≡ length d.signals = c.len-number-end.ensures ∙ c.args.design.now.signals.ok.0 in
    let past : length d.signals ≤ c.loop-number.number = omega (arith, count) in
    all_below (IsStored d) c.loop-number.number (places c.loop-number.found.items) c.loop-number.invariant.below
    (λ s is. let inside = stored_there d s is in omega (arith, inside, past))
