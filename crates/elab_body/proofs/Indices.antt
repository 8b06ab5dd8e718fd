-- The number of a loop's index, written again and written back.
use Rattle.std.specs.Prelude.{ℕ, ℤ, List, true, false, Option, None, Some}
use Rattle.std.specs.Cmp.Lexicographic.{bytes_decides}
use Rattle.std.specs.Str.{bytes_eq}
use Rattle.std.proofs.Common.{◌≡◌, ◌∙◌, ap, sym, refl, inl, inr}
use Rattle.std.proofs.Math.Path.{fun_ext}
use Rattle.std.proofs.lemmas.Bool.{cases_Bool, cond-true}
use Rattle.elab_nodes.specs.elab_scope.declared.known.Known.{Known}
use Rattle.elab_nodes.specs.elab_scope.declared.known.Known.TheVariants.{Signal, Parameter, Integer}
use Rattle.elab_nodes.specs.elab_scope.Names.{Meanings, with_meaning, indexed, is_integer, number_of}

itself : (name : List ℕ) → bytes_eq name name ≡ true
itself name = (bytes_decides name name).1 refl

-- the last meaning holds
with_again : (scope : Meanings) (name : List ℕ) (a b : Known) → with_meaning (with_meaning scope name a) name b ≡ with_meaning scope name b
with_again scope name a b =
    fun_ext
    (λ other. elim (cases_Bool (bytes_eq name other)) [
      | inl yes' ↦ rw yes' refl
      | inr no' ↦ rw no' refl
    ])

at_name : (scope : Meanings) (name : List ℕ) (a : Known) → with_meaning scope name a name ≡ Some a
at_name scope name a = cond-true (bytes_eq name name) (Some a) (scope name) (itself name)

-- a meaning that is there already changes nothing
with_same : (scope : Meanings) (name : List ℕ) (a : Known) → scope name ≡ Some a → with_meaning scope name a ≡ scope
with_same scope name a is =
    fun_ext
    (λ other. elim (cases_Bool (bytes_eq name other)) [
      | inl yes' ↦ rw yes' (sym is ∙ ap scope ((bytes_decides name other).0 yes'))
      | inr no' ↦ rw no' refl
    ])

-- the index of a loop has the number that it was given last
pub indexed_some : (scope : Meanings) (name : List ℕ) (a b : Option ℤ) → scope name ≡ Some (Integer b) → indexed scope name a ≡ with_meaning scope name (Integer a)
indexed_some scope name a b is = rw is refl

pub indexed_again : (scope : Meanings) (name : List ℕ) (a b c : Option ℤ) → scope name ≡ Some (Integer c) → indexed (indexed scope name a) name b ≡ indexed scope name b
indexed_again scope name a b c is =
    ap (λ s. indexed s name b) (indexed_some scope name a c is)
    ∙ indexed_some (with_meaning scope name (Integer a)) name b a (at_name scope name (Integer a))
    ∙ with_again scope name (Integer a) (Integer b)
    ∙ sym (indexed_some scope name b c is)

-- after a loop its index has what it had before
pub indexed_back : (scope : Meanings) (name : List ℕ) (a b : Option ℤ) → scope name ≡ Some (Integer b) → indexed (indexed scope name a) name b ≡ scope
indexed_back scope name a b is =
    indexed_again scope name a b b is
    ∙ indexed_some scope name b b is
    ∙ with_same scope name (Integer b) is

-- the same of any name, since what isn't an `integer` keeps its meaning
other_kept : (scope : Meanings) (name : List ℕ) (a : Option ℤ) → is_integer (scope name) ≡ false → indexed scope name a ≡ scope
other_kept scope name a no' = rw no' refl

again_of : (scope : Meanings) (name : List ℕ) (a b : Option ℤ) (known : Option Known) → scope name ≡ known → indexed (indexed scope name a) name b ≡ indexed scope name b
again_of scope name a b (Some (Integer c)) is = indexed_again scope name a b c is
again_of scope name a b (Some (Signal number role shape)) is =
    ap (λ s. indexed s name b) (other_kept scope name a (ap is_integer is))
again_of scope name a b (Some (Parameter number width signed)) is =
    ap (λ s. indexed s name b) (other_kept scope name a (ap is_integer is))
again_of scope name a b None is =
    ap (λ s. indexed s name b) (other_kept scope name a (ap is_integer is))

pub indexed_anew : (scope : Meanings) (name : List ℕ) (a b : Option ℤ) → indexed (indexed scope name a) name b ≡ indexed scope name b
indexed_anew scope name a b = again_of scope name a b (scope name) refl

home_of : (scope : Meanings) (name : List ℕ) (known : Option Known) → scope name ≡ known → indexed scope name (number_of known) ≡ scope
home_of scope name (Some (Integer c)) is =
    indexed_some scope name c c is ∙ with_same scope name (Integer c) is
home_of scope name (Some (Signal number role shape)) is =
    other_kept scope name (number_of (Some (Signal number role shape))) (ap is_integer is)
home_of scope name (Some (Parameter number width signed)) is =
    other_kept scope name (number_of (Some (Parameter number width signed))) (ap is_integer is)
home_of scope name None is = other_kept scope name None (ap is_integer is)

-- with the number that it has a name changes nothing
pub indexed_kept : (scope : Meanings) (name : List ℕ) → indexed scope name (number_of (scope name)) ≡ scope
indexed_kept scope name = home_of scope name (scope name) refl

pub indexed_home : (scope : Meanings) (name : List ℕ) (a : Option ℤ) → indexed (indexed scope name a) name (number_of (scope name)) ≡ scope
indexed_home scope name a =
    indexed_anew scope name a (number_of (scope name)) ∙ indexed_kept scope name

-- a name that was given numbers and then its own again
pub indexed_restored : (scope turned after : Meanings) (name : List ℕ) (before : Option ℤ) → ((number : Option ℤ) → indexed turned name number ≡ indexed scope name number) → before ≡ number_of (scope name) → after ≡ indexed turned name before → after ≡ scope
indexed_restored scope turned after name before same was is =
    is
    ∙ same before
    ∙ ap (indexed scope name) was
    ∙ indexed_kept scope name

-- the same after one number
pub indexed_undone : (scope turned after : Meanings) (name : List ℕ) (a before : Option ℤ) → turned ≡ indexed scope name a → before ≡ number_of (scope name) → after ≡ indexed turned name before → after ≡ scope
indexed_undone scope turned after name a before turn was is =
    indexed_restored scope turned after name before (λ number. ap (λ s. indexed s name number) turn ∙ indexed_anew scope name a number) was is

-- any number of turns leave only the index changed
pub indexed_turned : (scope turned set after : Meanings) (name : List ℕ) (a : Option ℤ) → ((number : Option ℤ) → indexed turned name number ≡ indexed scope name number) → set ≡ indexed turned name a → after ≡ set → (number : Option ℤ) → indexed after name number ≡ indexed scope name number
indexed_turned scope turned set after name a same is kept number =
    ap (λ s. indexed s name number) (kept ∙ is)
    ∙ indexed_anew turned name a number
    ∙ same number
