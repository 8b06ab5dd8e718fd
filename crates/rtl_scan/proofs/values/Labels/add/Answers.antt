use Rattle.std.proofs.Common.{◌≡◌, ◌∙◌, refl, sym, ap, Bool, true, false, not, cond}
use Rattle.std.specs.Prelude.{◌==◌}
use Rattle.std.specs.Ordering.{nat_cmp}
use Rattle.std.specs.BTreeSet.{contains}
use Rattle.std.proofs.lemmas.Result.{on_ok_weaker}
use Rattle.rtl_bits.specs.Bits.{has_unknown}
use Rattle.rtl_scan.proofs.Known.{gets_number, gets_other}
use Rattle.rtl_scan.proofs.values.Labels.add.Goals as goal

known : (a b : Bool) → b ≡ not a → b ≡ true → a ≡ false
known true b is h = absurd (let e : true ≡ false = sym h ∙ is in cc)
known false b is h = refl

pub returns-then-is_known : goal.returns-then-is_known
returns-then-is_known c =
    on_ok_weaker c.insert_number.result
    (λ h. gets_number c.args.width c.args.label c.args.self.now _ (sym c.width.ensures.exact ∙ c.if-width.true) (known (has_unknown c.args.label) c.is_known.result c.is_known.ensures c.if-is_known.true) (λ n. h n ∙ ap (λ m. cond (n == m) true (contains nat_cmp c.args.self.now.numbers n)) c.number.ensures.exact) refl)
    c.insert_number.ensures

pub returns : goal.returns
returns c = gets_other c.args.width c.args.label c.args.self.now _ refl c.in_ok-push.ensures.items
