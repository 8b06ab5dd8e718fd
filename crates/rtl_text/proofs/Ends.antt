-- The first `*/` of a text.
use Rattle.std.proofs.Common.{◌≡◌, ℕ, zero, suc, ◌+◌, ◌≤◌, Bool, true, false, cond, ◌&&◌, ◌||◌, ◌==◌, List, [], ◌∷◌, ◌++◌, length, take, drop, Option, Some, None, refl, sym, ap, ap₂, subst, ◌∙◌, arith, eqb-true}
use Rattle.std.specs.Option.{option_map}
use Rattle.rtl_tree.specs.Lexemes.{leads, has_end}
use Rattle.rtl_text.specs.Forms.{first}
use Rattle.rtl_text.specs.Fronts.{end_at}
use Rattle.rtl_text.proofs.Runs.{one_more, take_more}
use Rattle.rtl_text.proofs.Chains.{pick, more_is}

-- where `*/` was found
pub record Ends (n : ℕ) (text : List ℕ) : Type 0 where
  pub parts : text ≡ take n text ++ (42 ∷ 47 ∷ drop (2 + n) text)
  pub within : n ≤ length text
  pub no_other : has_end (take n text ++ 42 ∷ []) ≡ false

pub and_both : (o p : Bool) → (o && p) ≡ true → (o ≡ true) × (p ≡ true)
and_both true p h = (refl, h)
and_both false p h = cc

pub or_none : (o p : Bool) → (o || p) ≡ false → (o ≡ false) × (p ≡ false)
or_none false p h = (refl, h)
or_none true p h = cc

pub no_or : (o p : Bool) → o ≡ false → p ≡ false → (o || p) ≡ false
no_or false p e h = h
no_or true p e h = cc

and_less : (o p q : Bool) → (o && p) ≡ false → (q ≡ true → p ≡ true) → (o && q) ≡ false
and_less false p q h f = refl
and_less true p false h f = refl
and_less true p true h f = let two : p ≡ true = f refl in cc

leads_front : (m : ℕ) (bs : List ℕ) → leads 47 (take m bs ++ 42 ∷ []) ≡ true → (first bs == 47) ≡ true
leads_front zero bs h = cc
leads_front (suc m) [] h = cc
leads_front (suc m) (c ∷ cs) h = h

slash_front : (bs : List ℕ) → (first bs == 47) ≡ true → bs ≡ 47 ∷ drop 1 bs
slash_front [] h = cc
slash_front (c ∷ cs) h = ap (λ x. x ∷ cs) (eqb-true c 47 h)

at_once : (b : ℕ) (bs : List ℕ) → (b == 42 && first bs == 47) ≡ true → Ends 0 (b ∷ bs)
at_once b bs h =
    let w = and_both (b == 42) (first bs == 47) h in
    record { parts = ap₂ (λ x xs. x ∷ xs) (eqb-true b 42 w.0) (slash_front bs w.1); within = omega arith; no_other = refl }

three_more : (m : ℕ) → 2 + (1 + m) ≡ suc (2 + m)
three_more m = omega arith

one_later : (b : ℕ) (bs : List ℕ) (m : ℕ) → (b == 42 && first bs == 47) ≡ false → Ends m bs → Ends (1 + m) (b ∷ bs)
one_later b bs m h w =
    let front : take (1 + m) (b ∷ bs) ≡ b ∷ take m bs = take_more m b bs in
    let back : drop (2 + (1 + m)) (b ∷ bs) ≡ drop (2 + m) bs = ap (λ k. drop k (b ∷ bs)) (three_more m) in
    record {
      parts = ap (λ xs. b ∷ xs) w.parts ∙ ap₂ (λ xs ys. xs ++ (42 ∷ 47 ∷ ys)) (sym front) (sym back);
      within = omega (arith, w.within);
      no_other = ap (λ xs. has_end (xs ++ 42 ∷ [])) front
          ∙ no_or (b == 42 && leads 47 (take m bs ++ 42 ∷ [])) (has_end (take m bs ++ 42 ∷ [])) (and_less (b == 42) (first bs == 47) (leads 47 (take m bs ++ 42 ∷ [])) h (leads_front m bs)) w.no_other;
    }

pub end_takes : (text : List ℕ) (n : ℕ) → end_at text ≡ Some n → Ends n text
end_takes [] n h = cc
end_takes (b ∷ bs) n h =
    pick (b == 42 && first bs == 47) _ _ (Some n) (Ends n (b ∷ bs))
    (λ o e. let is : 0 ≡ n = cc in subst (λ k. Ends k (b ∷ bs)) is (at_once b bs o))
    (λ o e. let w = more_is (end_at bs) n e in subst (λ k. Ends k (b ∷ bs)) (sym w.2) (one_later b bs w.0 o (end_takes bs w.0 w.1))) h

more_none : (o : Option ℕ) → option_map (λ k. 1 + k) o ≡ None → o ≡ None
more_none None h = refl
more_none (Some n) h = cc

leads_first : (bs : List ℕ) → leads 47 bs ≡ (first bs == 47)
leads_first [] = refl
leads_first (c ∷ cs) = refl

pub never_takes : (text : List ℕ) → end_at text ≡ None → has_end text ≡ false
never_takes [] h = refl
never_takes (b ∷ bs) h =
    pick (b == 42 && first bs == 47) _ _ None (has_end (b ∷ bs) ≡ false) (λ o e. cc)
    (λ o e. no_or (b == 42 && leads 47 bs) (has_end bs) (ap (λ x. b == 42 && x) (leads_first bs) ∙ o) (never_takes bs (more_none (end_at bs) e))) h

pub never_again : (text : List ℕ) → has_end text ≡ false → end_at text ≡ None
never_again [] h = refl
never_again (b ∷ bs) h =
    let w = or_none (b == 42 && leads 47 bs) (has_end bs) h in
    ap (λ x. cond (b == 42 && x) (Some 0) (option_map (λ k. 1 + k) (end_at bs))) (sym (leads_first bs))
    ∙ ap (λ x. cond x (Some 0) (option_map (λ k. 1 + k) (end_at bs))) w.0
    ∙ ap (λ o. option_map (λ k. 1 + k) o) (never_again bs w.1)

leads_inside : (bs rest : List ℕ) → (first (bs ++ (42 ∷ 47 ∷ rest)) == 47) ≡ leads 47 (bs ++ 42 ∷ [])
leads_inside [] rest = refl
leads_inside (c ∷ cs) rest = refl

pub end_again : (inside rest : List ℕ) → has_end (inside ++ 42 ∷ []) ≡ false → end_at (inside ++ (42 ∷ 47 ∷ rest)) ≡ Some (length inside)
end_again [] rest h = refl
end_again (b ∷ bs) rest h =
    let w = or_none (b == 42 && leads 47 (bs ++ 42 ∷ [])) (has_end (bs ++ 42 ∷ [])) h in
    let later = option_map (λ k. 1 + k) (end_at (bs ++ (42 ∷ 47 ∷ rest))) in
    ap (λ x. cond (b == 42 && x) (Some 0) later) (leads_inside bs rest)
    ∙ ap (λ x. cond x (Some 0) later) w.0
    ∙ ap (λ o. option_map (λ k. 1 + k) o) (end_again bs rest w.1)
    ∙ ap (λ k. Some k) (one_more (length bs))
