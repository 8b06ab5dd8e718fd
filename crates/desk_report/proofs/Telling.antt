-- What is told of findings, one after the other.
use Rattle.std.specs.Prelude.{Option}
use Rattle.std.proofs.Common.{ℕ, zero, suc, ◌≡◌, ◌∙◌, ◌<◌, ◌+◌, List, [], ◌∷◌, ◌++◌, length, get_or, drop, ap, sym, refl, add-one, append_assoc, drop-cons}
use Rattle.rtl_flat.specs.declared.instance.Instance.{Instance}
use Rattle.rtl_flat.specs.declared.signal.Signal.{Signal}
use Rattle.rtl_rule.specs.declared.finding.Finding.{Finding}
use Rattle.demo_told.specs.declared.demo.Demo.{Demo}
use Rattle.demo_told.specs.declared.demo.Shown.{Shown}
use Rattle.desk_rows.specs.declared.Row.{Row}
use Rattle.desk_report.specs.Tellings.{first_shown, row_in, tellings}

drop_one : {A : Type 0} (i : ℕ) (xs : List A) → drop 1 (drop i xs) ≡ drop (suc i) xs
drop_one zero xs = refl
drop_one (suc i) [] = refl
drop_one (suc i) (x ∷ xs) = drop_one i xs

pub tell_more : (signals : List Signal) (instances : List Instance) (findings : List Finding) (shown : List (Option (Demo × Shown))) (i : ℕ) (d : Finding) (before after all : List Row) (one : Row) → i < length findings → one ≡ row_in signals instances (get_or findings i d) (first_shown (drop i shown)) → after ≡ before ++ one ∷ [] → before ++ tellings signals instances (drop i findings) (drop i shown) ≡ all → after ++ tellings signals instances (drop (i + 1) findings) (drop (i + 1) shown) ≡ all
tell_more signals instances findings shown i d before after all one within is more all_is =
    ap (λ rows. rows ++ tellings signals instances (drop (i + 1) findings) (drop (i + 1) shown)) more
    ∙ append_assoc before (one ∷ []) (tellings signals instances (drop (i + 1) findings) (drop (i + 1) shown))
    ∙ ap (λ rest. before ++ rest)
    (ap (λ o. o ∷ tellings signals instances (drop (i + 1) findings) (drop (i + 1) shown)) is
    ∙ ap (λ n. row_in signals instances (get_or findings i d) (first_shown (drop i shown)) ∷ tellings signals instances (drop n findings) (drop n shown)) (add-one i)
    ∙ ap (λ s. row_in signals instances (get_or findings i d) (first_shown (drop i shown)) ∷ tellings signals instances (drop (suc i) findings) s) (sym (drop_one i shown))
    ∙ ap (λ fs. tellings signals instances fs (drop i shown)) (sym (drop-cons findings i d within)))
    ∙ all_is
