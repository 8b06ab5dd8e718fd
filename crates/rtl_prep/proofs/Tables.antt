-- A map from names to macros after a write, as a function.
use Rattle.std.specs.Prelude.{ℕ, List, Option, Bool, true, false}
use Rattle.std.specs.Option.{option_map}
use Rattle.std.specs.BTreeMap.{BTreeMap, get_by, UpdatesBy}
use Rattle.std.specs.Map.{lookup, IsKeyTest, AreApart, KeepsOthers}
use Rattle.std.specs.Cmp.{eq_by_cmp_equiv}
use Rattle.std.specs.Cmp.Lexicographic.{slice_cmp, bytes_decides, nat_list_cmp_total, nat_list_eq_equiv}
use Rattle.std.specs.Ordering.{is_eq, nat_cmp}
use Rattle.std.specs.Str.{bytes_eq}
use Rattle.std.proofs.Common.{◌≡◌, sym, ◌∙◌, ap, subst, Bor}
use Rattle.std.proofs.Math.Path.{fun_ext}
use Rattle.std.proofs.lemmas.Bool.{cases_Bool, cond-true, cond-false}
use Rattle.std.proofs.lemmas.Map.Text.{is_eq-slice_cmp}
use Rattle.rtl_prep.specs.declared.macros.Macro as code_macro
use Rattle.rtl_prep.specs.Macros.{Macros, with_macro}
use Rattle.rtl_prep.specs.Tables.{seen_macro}
use mathlib.Core.Logic.{⊎_elim}

abbrev Key : Type 0
Key = Bor (List ℕ)

abbrev Map : Type 0
Map = BTreeMap Key code_macro.Macro

abbrev read : Map → Macros
read m = λ name. option_map seen_macro (get_by (λ key. slice_cmp nat_cmp name key.now) m)

-- a key that is one name is no other name
apart : (name other key : List ℕ) → bytes_eq name other ≡ false → is_eq (slice_cmp nat_cmp name key) ≡ true → is_eq (slice_cmp nat_cmp other key) ≡ false
apart name other key differ same =
    is_eq-slice_cmp other key
    ∙ (nat_list_eq_equiv.symm other key
    ∙ sym (nat_list_eq_equiv.congr name key other (sym (is_eq-slice_cmp name key) ∙ same))
    ∙ differ)

others : (test : Key → Bool) (eq : Key → Key → Bool) (old new : List (Key × code_macro.Macro)) → KeepsOthers eq test old new → (other : Key → Bool) → IsKeyTest eq other → AreApart test other → lookup other new ≡ lookup other old
unfolding KeepsOthers
others test eq old new kept = kept

pub written : (old new : Map) (name : List ℕ) (w : Option code_macro.Macro) → UpdatesBy (λ x y. slice_cmp nat_cmp x.now y.now) (λ k. slice_cmp nat_cmp name k.now) old new w → read new ≡ with_macro (read old) name (option_map seen_macro w)
written old new name w updates =
    fun_ext
    (λ other. ⊎_elim
    (λ same. subst (λ l. read new l ≡ option_map seen_macro w) ((bytes_decides name other).0 same) (ap (option_map seen_macro) updates.1)
    ∙ sym (cond-true (bytes_eq name other) (option_map seen_macro w) (read old other) same))
    (λ differ. ap (option_map seen_macro) (others
    (λ k. is_eq (slice_cmp nat_cmp name k.now))
    _
    old.entries
    new.entries
    updates.3
    (λ k. is_eq (slice_cmp nat_cmp other k.now))
    (λ x y. (eq_by_cmp_equiv nat_list_cmp_total).congr other x.now y.now)
    (λ k. apart name other k.now differ))
    ∙ sym (cond-false (bytes_eq name other) (option_map seen_macro w) (read old other) differ))
    (cases_Bool (bytes_eq name other)))
