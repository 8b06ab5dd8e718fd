-- What one turn of a loop of the builder does, and one level of depth.
use Rattle.std.proofs.Common.{◌≡◌, ℕ, zero, suc, ◌<◌, Bool, true, false, cond, List, [], ◌∷◌, ◌++◌, length, Some, None, Result, Err, refl, sym, ap, ◌∙◌, subst, arith}
use Rattle.rtl_tree.specs.declared.symbol.Symbol.{Symbol}
use Rattle.rtl_tree.specs.Symbols.{Terminal}
use Rattle.text_build.specs.declared.fault.BuildFault.{BuildFault}
use Rattle.text_build.specs.declared.fault.BuildFault.TheVariants.{NotSpelled, Memory}
use Rattle.rtl_tree.specs.declared.symbol.Symbol.TheVariants as symbol
use Rattle.text_build.specs.Reading.{Parser, Outcome, Reads, and_then, pure, starts, after, add, turns, repeat, until_in, until, links, commas, listed}

-- ---- outcomes

pub reads_same : {A B : Type 0} (view : A → B) (o o' : Outcome B) (r : Result A BuildFault) (rest : List Terminal) → o ≡ o' → Reads view o r rest → Reads view o' r rest
reads_same view o o' r rest e h = subst (λ x. Reads view x r rest) e h

pub reads_err : {A B C D : Type 0} (view : A → B) (view' : C → D) (o : Outcome B) (o' : Outcome D) (e : BuildFault) (rest rest' : List Terminal) → (o ≡ None → o' ≡ None)
    → Reads view o (Err e) rest → Reads view' o' (Err e) rest'
reads_err view view' o o' NotSpelled rest rest' f h = f h
reads_err view view' o o' Memory rest rest' f h = tt

-- ---- as long as a test holds

pub turns_out : {A : Type 0} (n : ℕ) (test : List Terminal → Bool) (step : A → Parser A) (a : A) (ts : List Terminal) → n ≡ 0 → turns n test step a ts ≡ Some (a, ts)
unfolding turns
turns_out zero test step a ts e = refl
turns_out (suc n) test step a ts e = absurd (omega arith)

pub turns_stop : {A : Type 0} (n : ℕ) (test : List Terminal → Bool) (step : A → Parser A) (a : A) (ts : List Terminal) → test ts ≡ false → turns n test step a ts ≡ Some (a, ts)
unfolding turns
turns_stop zero test step a ts s = refl
turns_stop (suc n) test step a ts s = ap (λ o. cond o (and_then (step a ts) (turns n test step)) (Some (a, ts))) s

pub turns_go : {A : Type 0} (n m : ℕ) (test : List Terminal → Bool) (step : A → Parser A) (a : A) (ts : List Terminal) (next : Outcome A) → n ≡ suc m → test ts ≡ true
    → step a ts ≡ next → turns n test step a ts ≡ and_then next (turns m test step)
unfolding turns
turns_go n m test step a ts next e s l =
    ap (λ k. turns k test step a ts) e
    ∙ ap (λ o. cond o (and_then (step a ts) (turns m test step)) (Some (a, ts))) s
    ∙ ap (λ r. and_then r (turns m test step)) l

pub turns_fail : {A : Type 0} (n : ℕ) (test : List Terminal → Bool) (step : A → Parser A) (a : A) (ts : List Terminal) → 0 < n → test ts ≡ true → step a ts ≡ None → turns n test step a ts ≡ None
turns_fail zero test step a ts m s l = absurd (omega arith)
turns_fail (suc n) test step a ts m s l = turns_go (suc n) n test step a ts None refl s l

-- one more in a list
pub add_some : {A : Type 0} (p : Parser A) (found : List A) (ts rest : List Terminal) (x : A) → p ts ≡ Some (x, rest) → add p found ts ≡ Some (found ++ x ∷ [], rest)
add_some p found ts rest x e = ap (λ o. and_then o (λ y. pure (found ++ y ∷ []))) e

pub add_none : {A : Type 0} (p : Parser A) (found : List A) (ts : List Terminal) → p ts ≡ None → add p found ts ≡ None
add_none p found ts e = ap (λ o. and_then o (λ y. pure (found ++ y ∷ []))) e

pub turns_start : {A : Type 0} (n : ℕ) (test : List Terminal → Bool) (step : A → Parser A) (a b : A) (ts : List Terminal) → n ≡ length ts → a ≡ b → turns n test step a ts ≡ repeat test step b ts
unfolding repeat
turns_start n test step a b ts e f = rw (e, f) refl

-- ---- before a token

pub until_out : {A : Type 0} (n : ℕ) (s : Symbol) (p : Parser A) (found : List A) (ts : List Terminal) → n ≡ 0 → until_in n s p found ts ≡ Some (found, ts)
unfolding until_in
until_out zero s p found ts e = refl
until_out (suc n) s p found ts e = absurd (omega arith)

pub until_stop : {A : Type 0} (n : ℕ) (s : Symbol) (p : Parser A) (found : List A) (ts : List Terminal) → starts s ts ≡ true → until_in n s p found ts ≡ Some (found, ts)
unfolding until_in
until_stop zero s p found ts e = refl
until_stop (suc n) s p found ts e = ap (λ o. cond o (Some (found, ts)) (and_then (add p found ts) (until_in n s p))) e

pub until_go : {A : Type 0} (n m : ℕ) (s : Symbol) (p : Parser A) (found : List A) (ts : List Terminal) (next : Outcome (List A)) → n ≡ suc m → starts s ts ≡ false
    → add p found ts ≡ next → until_in n s p found ts ≡ and_then next (until_in m s p)
unfolding until_in
until_go n m s p found ts next e t l =
    ap (λ k. until_in k s p found ts) e
    ∙ ap (λ o. cond o (Some (found, ts)) (and_then (add p found ts) (until_in m s p))) t
    ∙ ap (λ r. and_then r (until_in m s p)) l

pub until_turn : {A : Type 0} (n m : ℕ) (s : Symbol) (p : Parser A) (found found' : List A) (ts rest : List Terminal) (x : A) → n ≡ suc m → starts s ts ≡ false
    → p ts ≡ Some (x, rest) → found' ≡ found ++ x ∷ [] → until_in n s p found ts ≡ until_in m s p found' rest
until_turn n m s p found found' ts rest x e t l f =
    until_go n m s p found ts (Some (found ++ x ∷ [], rest)) e t (add_some p found ts rest x l) ∙ ap (λ a. until_in m s p a rest) (sym f)

pub until_fail : {A : Type 0} (n : ℕ) (s : Symbol) (p : Parser A) (found : List A) (ts : List Terminal) → 0 < n → starts s ts ≡ false → p ts ≡ None → until_in n s p found ts ≡ None
until_fail zero s p found ts m t l = absurd (omega arith)
until_fail (suc n) s p found ts m t l = until_go (suc n) n s p found ts None refl t (add_none p found ts l)

pub until_start : {A : Type 0} (n : ℕ) (s : Symbol) (p : Parser A) (found : List A) (ts : List Terminal) → n ≡ length ts → found ≡ [] → until_in n s p found ts ≡ until s p ts
unfolding until
until_start n s p found ts e f = rw (e, f) refl

-- ---- with separators

pub links_out : {A : Type 0} (n : ℕ) (test : List Terminal → Bool) (left : List Terminal → List Terminal) (step : A → Parser A) (a : A) (ts : List Terminal) → n ≡ 0
    → links n test left step a ts ≡ None
unfolding links
links_out zero test left step a ts e = refl
links_out (suc n) test left step a ts e = absurd (omega arith)

pub links_go : {A : Type 0} (n m : ℕ) (test : List Terminal → Bool) (left : List Terminal → List Terminal) (step : A → Parser A) (a : A) (ts : List Terminal) (next : Outcome A) → n ≡ suc m
    → step a ts ≡ next → links n test left step a ts ≡ and_then next (λ b us. cond (test us) (links m test left step b (left us)) (Some (b, left us)))
unfolding links
links_go n m test left step a ts next e l =
    ap (λ k. links k test left step a ts) e
    ∙ ap (λ r. and_then r (λ b us. cond (test us) (links m test left step b (left us)) (Some (b, left us)))) l

pub links_turn : {A : Type 0} (n m : ℕ) (test : List Terminal → Bool) (left : List Terminal → List Terminal) (step : A → Parser A) (a b : A) (ts mid rest : List Terminal) → n ≡ suc m
    → step a ts ≡ Some (b, mid) → test mid ≡ true → rest ≡ left mid → links n test left step a ts ≡ links m test left step b rest
links_turn n m test left step a b ts mid rest e l t r =
    links_go n m test left step a ts (Some (b, mid)) e l
    ∙ ap (λ o. cond o (links m test left step b (left mid)) (Some (b, left mid))) t
    ∙ ap (λ x. links m test left step b x) (sym r)

pub links_stop : {A : Type 0} (n : ℕ) (test : List Terminal → Bool) (left : List Terminal → List Terminal) (step : A → Parser A) (a b : A) (ts mid rest : List Terminal) → 0 < n
    → step a ts ≡ Some (b, mid) → test mid ≡ false → rest ≡ left mid → links n test left step a ts ≡ Some (b, rest)
links_stop zero test left step a b ts mid rest e l t r = absurd (omega arith)
links_stop (suc m) test left step a b ts mid rest e l t r =
    links_go (suc m) m test left step a ts (Some (b, mid)) refl l
    ∙ ap (λ o. cond o (links m test left step b (left mid)) (Some (b, left mid))) t
    ∙ ap (λ x. Some (b, x)) (sym r)

pub links_fail : {A : Type 0} (n : ℕ) (test : List Terminal → Bool) (left : List Terminal → List Terminal) (step : A → Parser A) (a : A) (ts : List Terminal) → 0 < n
    → step a ts ≡ None → links n test left step a ts ≡ None
links_fail zero test left step a ts m l = absurd (omega arith)
links_fail (suc n) test left step a ts m l = links_go (suc n) n test left step a ts None refl l

-- ---- lists with separators

pub lists_turn : {A : Type 0} (n m : ℕ) (test : List Terminal → Bool) (left : List Terminal → List Terminal) (p : Parser A) (found found' : List A) (ts mid rest : List Terminal) (x : A) → n ≡ suc m
    → p ts ≡ Some (x, mid) → found' ≡ found ++ x ∷ [] → test mid ≡ true → rest ≡ left mid → links n test left (add p) found ts ≡ links m test left (add p) found' rest
lists_turn n m test left p found found' ts mid rest x e l f t r =
    links_turn n m test left (add p) found (found ++ x ∷ []) ts mid rest e (add_some p found ts mid x l) t r ∙ ap (λ a. links m test left (add p) a rest) (sym f)

pub lists_stop : {A : Type 0} (n : ℕ) (test : List Terminal → Bool) (left : List Terminal → List Terminal) (p : Parser A) (found found' : List A) (ts mid rest : List Terminal) (x : A) → 0 < n
    → p ts ≡ Some (x, mid) → found' ≡ found ++ x ∷ [] → test mid ≡ false → rest ≡ left mid → links n test left (add p) found ts ≡ Some (found', rest)
lists_stop n test left p found found' ts mid rest x e l f t r =
    links_stop n test left (add p) found (found ++ x ∷ []) ts mid rest e (add_some p found ts mid x l) t r ∙ ap (λ a. Some (a, rest)) (sym f)

pub lists_fail : {A : Type 0} (n : ℕ) (test : List Terminal → Bool) (left : List Terminal → List Terminal) (p : Parser A) (found : List A) (ts : List Terminal) → 0 < n
    → p ts ≡ None → links n test left (add p) found ts ≡ None
lists_fail n test left p found ts m l = links_fail n test left (add p) found ts m (add_none p found ts l)

pub commas_start : {A : Type 0} (n : ℕ) (step : A → Parser A) (a b : A) (ts : List Terminal) → n ≡ length ts → a ≡ b
    → links n (starts symbol.Comma) (after symbol.Comma) step a ts ≡ commas step b ts
unfolding commas
commas_start n step a b ts e f = rw (e, f) refl

pub listed_start : {A : Type 0} (n : ℕ) (p : Parser A) (found : List A) (ts : List Terminal) → n ≡ length ts → found ≡ []
    → links n (starts symbol.Comma) (after symbol.Comma) (add p) found ts ≡ listed p ts
unfolding listed
listed_start n p found ts e f = commas_start n (add p) found [] ts e f
