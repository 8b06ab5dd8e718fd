-- A map of names after a write, as a function.
use Rattle.std.specs.Prelude.{ℕ, List, Vec, Some, Bool, true, false, if◌then◌else◌}
use Rattle.std.specs.List.{list_all}
use Rattle.std.specs.declared.alloc.Global.{Global}
use Rattle.std.specs.BTreeMap.{BTreeMap, get_by, UpdatesBy}
use Rattle.std.specs.Map.{lookup, IsKeyTest, AreApart, KeepsOthers}
use Rattle.std.specs.Cmp.{eq_by_cmp_equiv}
use Rattle.std.specs.Cmp.Lexicographic.{slice_cmp, bytes_decides, nat_list_cmp_total, nat_list_eq_equiv}
use Rattle.std.specs.Ordering.{is_eq, nat_cmp}
use Rattle.std.specs.Str.{bytes_eq}
use Rattle.std.proofs.Common.{◌≡◌, sym, ap, ◌∙◌, subst, arith}
use Rattle.std.proofs.lemmas.Bool.Decides.{nat_tests}
use Rattle.std.proofs.Math.Path.{fun_ext}
use Rattle.std.proofs.lemmas.Bool.{cases_Bool, cond-true, cond-false}
use Rattle.std.proofs.lemmas.Cmp.{nat_cmp_total}
use Rattle.std.proofs.lemmas.Map.Text.{is_eq-slice_cmp}
use Rattle.name_map.specs.Packed.{is_byte, is_short, packed}
use Rattle.name_map.specs.Values.{Values, with_value}
use Rattle.name_map.proofs.Numbers.{same_packed}
use mathlib.Core.Logic.{⊎_elim}

-- a map of short names, a map of long ones, and what both hold
abbrev Shorts : Type 0 → Type 0
Shorts V = BTreeMap ℕ V

abbrev Longs : Type 0 → Type 0
Longs V = BTreeMap (Vec ℕ Global) V

abbrev of_short : {V : Type 0} → Shorts V → Values V
of_short m = λ name. get_by (λ key. nat_cmp (packed name) key) m

abbrev of_long : {V : Type 0} → Longs V → Values V
of_long m = λ name. get_by (λ key. slice_cmp nat_cmp name key.items) m

abbrev read : {V : Type 0} → Shorts V → Longs V → Values V
read short long = λ name. if is_short name then of_short short name else of_long long name

pub read_short : {V : Type 0} (short : Shorts V) (long : Longs V) (name : List ℕ) → is_short name ≡ true → read short long name ≡ of_short short name
read_short short long name h = cond-true (is_short name) (of_short short name) (of_long long name) h

pub read_long : {V : Type 0} (short : Shorts V) (long : Longs V) (name : List ℕ) → is_short name ≡ false → read short long name ≡ of_long long name
read_long short long name h = cond-false (is_short name) (of_short short name) (of_long long name) h

pub same_short : {V : Type 0} (new old : Shorts V) (long : Longs V) → new.entries ≡ old.entries → read new long ≡ read old long
same_short new old long same =
    ap (λ entries. λ name. if is_short name then lookup (λ k. is_eq (nat_cmp (packed name) k)) entries else of_long long name) same

pub same_long : {V : Type 0} (short : Shorts V) (new old : Longs V) → new.entries ≡ old.entries → read short new ≡ read short old
same_long short new old same =
    ap (λ entries. λ name. if is_short name then of_short short name else lookup (λ k. is_eq (slice_cmp nat_cmp name k.items)) entries) same

-- a key that is one name is no other name
apart : (name other key : List ℕ) → bytes_eq name other ≡ false → is_eq (slice_cmp nat_cmp name key) ≡ true → is_eq (slice_cmp nat_cmp other key) ≡ false
apart name other key differ same =
    is_eq-slice_cmp other key
    ∙ (nat_list_eq_equiv.symm other key
    ∙ sym (nat_list_eq_equiv.congr name key other (sym (is_eq-slice_cmp name key) ∙ same))
    ∙ differ)

numbers_apart : (m n key : ℕ) → (m ≡ n → ⊥) → is_eq (nat_cmp m key) ≡ true → is_eq (nat_cmp n key) ≡ false
numbers_apart m n key differ same = grind (arith, nat_tests)

others : {K V : Type 0} (test : K → Bool) (eq : K → K → Bool) (old new : List (K × V)) → KeepsOthers eq test old new → (other : K → Bool) → IsKeyTest eq other → AreApart test other → lookup other new ≡ lookup other old
unfolding KeepsOthers
others test eq old new kept = kept

bytes_of : (name : List ℕ) → is_short name ≡ true → list_all is_byte name ≡ true
bytes_of name h = grind (arith, h)

-- where one name is short, any other that isn't has another number or is no short one
numbers_differ : (name other : List ℕ) → is_short name ≡ true → is_short other ≡ true → bytes_eq name other ≡ false → packed name ≡ packed other → ⊥
numbers_differ name other h w differ same =
    let met : bytes_eq name other ≡ true = (bytes_decides name other).1 (same_packed name other (bytes_of name h) (bytes_of other w) same) in
    let never : true ≡ false = sym met ∙ differ in
    cc

long_write : {V : Type 0} (old new : Longs V) (name : List ℕ) (value : V) → UpdatesBy (λ x y. slice_cmp nat_cmp x.items y.items) (λ k. slice_cmp nat_cmp name k.items) old new (Some value)
    → (other : List ℕ) → of_long new other ≡ with_value (of_long old) name value other
long_write old new name value updates other =
    ⊎_elim
    (λ same. subst (λ l. of_long new l ≡ Some value) ((bytes_decides name other).0 same) updates.1
    ∙ sym (cond-true (bytes_eq name other) (Some value) (of_long old other) same))
    (λ differ. others
    (λ k. is_eq (slice_cmp nat_cmp name k.items))
    _
    old.entries
    new.entries
    updates.3
    (λ k. is_eq (slice_cmp nat_cmp other k.items))
    (λ x y. (eq_by_cmp_equiv nat_list_cmp_total).congr other x.items y.items)
    (λ k. apart name other k.items differ)
    ∙ sym (cond-false (bytes_eq name other) (Some value) (of_long old other) differ))
    (cases_Bool (bytes_eq name other))

short_write : {V : Type 0} (old new : Shorts V) (name : List ℕ) (value : V) → is_short name ≡ true → UpdatesBy nat_cmp (nat_cmp (packed name)) old new (Some value)
    → (other : List ℕ) → is_short other ≡ true → of_short new other ≡ with_value (of_short old) name value other
short_write old new name value short updates other as_short =
    ⊎_elim
    (λ same. subst (λ l. of_short new l ≡ Some value) ((bytes_decides name other).0 same) updates.1
    ∙ sym (cond-true (bytes_eq name other) (Some value) (of_short old other) same))
    (λ differ. others
    (λ k. is_eq (nat_cmp (packed name) k))
    _
    old.entries
    new.entries
    updates.3
    (λ k. is_eq (nat_cmp (packed other) k))
    (λ x y. (eq_by_cmp_equiv nat_cmp_total).congr (packed other) x y)
    (λ k. numbers_apart (packed name) (packed other) k (numbers_differ name other short as_short differ))
    ∙ sym (cond-false (bytes_eq name other) (Some value) (of_short old other) differ))
    (cases_Bool (bytes_eq name other))

-- names of which one is short and the other isn't
kinds_differ : (name other : List ℕ) (a b : Bool) → is_short name ≡ a → is_short other ≡ b → (a ≡ b → ⊥) → bytes_eq name other ≡ false
kinds_differ name other a b g h differ =
    ⊎_elim
    (λ same. absurd (differ (sym g ∙ ap is_short ((bytes_decides name other).0 same) ∙ h)))
    (λ apart. apart)
    (cases_Bool (bytes_eq name other))

pub written_short : {V : Type 0} (old new : Shorts V) (long : Longs V) (name : List ℕ) (value : V) → is_short name ≡ true → UpdatesBy nat_cmp (nat_cmp (packed name)) old new (Some value)
    → read new long ≡ with_value (read old long) name value
written_short old new long name value short updates =
    fun_ext
    (λ other. ⊎_elim
    (λ same. cond-true (is_short other) (of_short new other) (of_long long other) same
    ∙ short_write old new name value short updates other same
    ∙ ap (λ x. if bytes_eq name other then Some value else x) (sym (cond-true (is_short other) (of_short old other) (of_long long other) same)))
    (λ differ. cond-false (is_short other) (of_short new other) (of_long long other) differ
    ∙ sym (cond-false (is_short other) (of_short old other) (of_long long other) differ)
    ∙ sym (cond-false (bytes_eq name other) (Some value) (read old long other) (kinds_differ name other true false short differ (λ e. cc))))
    (cases_Bool (is_short other)))

pub written_long : {V : Type 0} (short : Shorts V) (old new : Longs V) (name : List ℕ) (value : V) → is_short name ≡ false → UpdatesBy (λ x y. slice_cmp nat_cmp x.items y.items) (λ k. slice_cmp nat_cmp name k.items) old new (Some value)
    → read short new ≡ with_value (read short old) name value
written_long short old new name value long updates =
    fun_ext
    (λ other. ⊎_elim
    (λ same. cond-true (is_short other) (of_short short other) (of_long new other) same
    ∙ sym (cond-true (is_short other) (of_short short other) (of_long old other) same)
    ∙ sym (cond-false (bytes_eq name other) (Some value) (read short old other) (kinds_differ name other false true long same (λ e. cc))))
    (λ differ. cond-false (is_short other) (of_short short other) (of_long new other) differ
    ∙ long_write old new name value updates other
    ∙ ap (λ x. if bytes_eq name other then Some value else x) (sym (cond-false (is_short other) (of_short short other) (of_long old other) differ)))
    (cases_Bool (is_short other)))
