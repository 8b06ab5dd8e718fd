-- The commands over the tables are none over sources.
use Rattle.std.proofs.Common.{◌≡◌, ℕ, List, [], ◌∷◌, None, Some, Bool, true, false, cond, refl, sym, subst}
use Rattle.std.specs.Prelude.{bytes_eq, codes}
use Rattle.std.proofs.lemmas.Slice.Eq.{bytes_eq-Decides}
use Rattle.desk_top.specs.Words.{is_sign, order as source_order}
use Rattle.desk_command.specs.Words.{Order, order, report_order, serve_order}

-- `report` and `serve` ask for no ruling of sources
pub no_sign : (words : List (List ℕ)) (o : Order) → order words ≡ Some o → is_sign (source_order words) ≡ false
no_sign [] o is = absurd (cc)
no_sign (name ∷ rest) o is = by_report (bytes_eq name (codes "report")) refl is
  where
    named : (word : List ℕ) → bytes_eq name word ≡ true → is_sign (source_order (word ∷ rest)) ≡ false → is_sign (source_order (name ∷ rest)) ≡ false
    named word same none =
        let P : List ℕ → Type 0 = λ (it : List ℕ). is_sign (source_order (it ∷ rest)) ≡ false in
        subst P (sym ((bytes_eq-Decides name word).0 same)) none

    by_serve : (b : Bool) → bytes_eq name (codes "serve") ≡ b → cond b (serve_order rest) None ≡ Some o → is_sign (source_order (name ∷ rest)) ≡ false
    by_serve true same is = named (codes "serve") same refl
    by_serve false same is = absurd (cc)

    by_report : (b : Bool) → bytes_eq name (codes "report") ≡ b → cond b (report_order rest) (cond (bytes_eq name (codes "serve")) (serve_order rest) None) ≡ Some o → is_sign (source_order (name ∷ rest)) ≡ false
    by_report true same is = named (codes "report") same refl
    by_report false same is = by_serve (bytes_eq name (codes "serve")) refl is
