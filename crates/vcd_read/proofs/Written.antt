-- What a map of codes holds after a write.
use Rattle.std.specs.Prelude.{ℕ, List, Vec, Some, Bool, true, false}
use Rattle.std.specs.declared.alloc.Global.{Global}
use Rattle.std.specs.BTreeMap.{BTreeMap, get_by, UpdatesBy}
use Rattle.std.specs.Map.{lookup, IsKeyTest, AreApart, KeepsOthers}
use Rattle.std.specs.Cmp.{eq_by_cmp_equiv}
use Rattle.std.specs.Cmp.Lexicographic.{slice_cmp, bytes_decides, nat_list_cmp_total, nat_list_eq_equiv}
use Rattle.std.specs.Ordering.{is_eq, nat_cmp}
use Rattle.std.specs.Str.{bytes_eq}
use Rattle.std.proofs.Common.{◌≡◌, sym, ◌∙◌, subst}
use Rattle.std.proofs.Math.Path.{fun_ext}
use Rattle.std.proofs.lemmas.Bool.{cases_Bool, cond-true, cond-false}
use Rattle.std.proofs.lemmas.Map.Text.{is_eq-slice_cmp}
use Rattle.vcd_read.specs.declared.codes.Code.{Code}
use Rattle.vcd_read.specs.Codes.{Codes, named}
use mathlib.Core.Logic.{⊎_elim}

abbrev read : BTreeMap (Vec ℕ Global) Code → Codes
read known = λ name. get_by (λ key. slice_cmp nat_cmp name key.items) known

-- a key that is one name is no other name
apart : (name other key : List ℕ) → bytes_eq name other ≡ false → is_eq (slice_cmp nat_cmp name key) ≡ true → is_eq (slice_cmp nat_cmp other key) ≡ false
apart name other key differ same =
    is_eq-slice_cmp other key
    ∙ (nat_list_eq_equiv.symm other key
    ∙ sym (nat_list_eq_equiv.congr name key other (sym (is_eq-slice_cmp name key) ∙ same))
    ∙ differ)

others : {V : Type 0} (test : Vec ℕ Global → Bool) (eq : Vec ℕ Global → Vec ℕ Global → Bool) (old new : List (Vec ℕ Global × V)) → KeepsOthers eq test old new → (other : Vec ℕ Global → Bool) → IsKeyTest eq other → AreApart test other → lookup other new ≡ lookup other old
unfolding KeepsOthers
others test eq old new kept = kept

pub written : (old new : BTreeMap (Vec ℕ Global) Code) (name : List ℕ) (code : Code) → UpdatesBy (λ x y. slice_cmp nat_cmp x.items y.items) (λ k. slice_cmp nat_cmp name k.items) old new (Some code) → read new ≡ named (read old) name code
written old new name code updates =
    fun_ext
    (λ other. ⊎_elim
    (λ same. subst (λ l. read new l ≡ Some code) ((bytes_decides name other).0 same) updates.1
    ∙ sym (cond-true (bytes_eq name other) (Some code) (read old other) same))
    (λ differ. others
    (λ k. is_eq (slice_cmp nat_cmp name k.items))
    _
    old.entries
    new.entries
    updates.3
    (λ k. is_eq (slice_cmp nat_cmp other k.items))
    (λ x y. (eq_by_cmp_equiv nat_list_cmp_total).congr other x.items y.items)
    (λ k. apart name other k.items differ)
    ∙ sym (cond-false (bytes_eq name other) (Some code) (read old other) differ))
    (cases_Bool (bytes_eq name other)))
