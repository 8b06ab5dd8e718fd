-- Expressions: operators between operands, grouped to the left, and `?:`.
use Rattle.std.proofs.Common.{◌≡◌, ℕ, zero, suc, ◌-◌, ◌≤◌, true, false, List, Option, Some, None, sym, ap, subst, ◌∙◌, arith}
use Rattle.rtl_tree.specs.declared.symbol.Symbol.{Symbol}
use Rattle.rtl_tree.specs.declared.symbol.Symbol.TheVariants as symbol
use Rattle.rtl_tree.specs.declared.tree.operators.BinaryOperator.{BinaryOperator}
use Rattle.rtl_tree.specs.Symbols.{Terminal}
use Rattle.rtl_tree.specs.TreeExpr.{Formula}
use Rattle.text_grammar.specs.GrammarExpr.{binary_symbol, level, IsFormula, IsExpression}
use Rattle.text_build.specs.Reading.{Parser, and_then, symbol_at, turns}
use Rattle.text_build.specs.ReadingExpr.{binary_of, looseness, goes, choice, joint, link_of, link_by, link, ended, chain, sequence, climb, expression}
use Rattle.text_build.proofs.Laws.Follows.{level_is, operator_goes, goes_mono}
use Rattle.text_build.specs.Sound.{IsPlain, ExpressionsAreSound}
use Rattle.text_build.proofs.Gives.{Gives, Sound, bind, choose, behind, next_gives}
use Rattle.text_build.proofs.CertainOperators.{IsLink, link_is, goes_is, looser, wider}
use Rattle.text_build.proofs.Operands.{Levels, all_levels, operand_gives}

-- what was read so far is an expression, and what goes on binds no tighter, nor is it part of a `?:`
record SoFar (k : ℕ) (f : Formula) (ts m : List Terminal) : Type 0 where
  most : ℕ
  is : IsFormula most f ts m
  within : most ≤ k
  next : (i : ℕ) → i ≤ 12 → goes i m ≡ true → (most ≤ i) × (most ≤ 11)

module _ (e : ℕ → Parser Formula) (c : Levels e) (k : ℕ) (low : k ≤ 12) where
  joint_gives : (op : BinaryOperator) (f : Formula) (ts m : List Terminal) → SoFar k f ts m → IsPlain m → symbol_at m ≡ Some (binary_symbol op) → level op ≤ k
      → Gives (joint op (e (level op - 1)) f m) (λ g rest. SoFar k g ts rest × IsPlain rest)
  unfolding joint
  joint_gives op f ts m so pl h l =
      bind (next_gives (binary_symbol op) m pl h)
      (λ at m1 w. bind (c (level op - 1) (omega (arith, (level_is op).most)) m1 w.1)
      (λ right m2 v. record {
        given = (
          record {
            most = level op;
            is = (omega arith, (m, wider so.most (level op) (so.next (level op) (omega (arith, (level_is op).most)) (operator_goes op (level op) at m m1 (omega arith) w.0)).0 f ts m so.is, (m1, w.0, v.0.0)));
            within = l;
            next = λ i b g. (looser (level op) m2 v.0.1 i g, (level_is op).most);
          },
          v.1,
        );
      }))

  choice_gives : (f : Formula) (ts m : List Terminal) → SoFar k f ts m → IsPlain m → symbol_at m ≡ Some symbol.Question → 12 ≤ k → goes k m ≡ true
      → Gives (choice (e 12) f m) (λ g rest. SoFar k g ts rest × IsPlain rest)
  unfolding choice
  choice_gives f ts m so pl h l g =
      bind (next_gives symbol.Question m pl h)
      (λ at m1 w. bind (c 12 (omega arith) m1 w.1)
      (λ taken m2 v. bind (behind symbol.Colon (e 12) (c 12 (omega arith)) m2 v.1)
      (λ other m3 u. record {
        given = (
          record {
            most = 12;
            is = (omega arith, (m, wider so.most 11 (so.next k low g).1 f ts m so.is, (m1, w.0, (m2, v.0.0, (u.0.0, u.0.1, u.0.2.0)))));
            within = l;
            next = λ i b q. let z : true ≡ false = sym q ∙ goes_mono i 12 b m3 u.0.2.1 in absurd (cc);
          },
          u.1,
        );
      })))

  link_from : (o : Option BinaryOperator) (s : Symbol) → IsLink o s → (f : Formula) (ts m : List Terminal) → SoFar k f ts m → IsPlain m → symbol_at m ≡ Some s → looseness s ≤ k
      → goes k m ≡ true → Gives (link_of o e f m) (λ g rest. SoFar k g ts rest × IsPlain rest)
  unfolding looseness
  link_from None s i f ts m so pl h l g =
      let q : s ≡ symbol.Question = i (omega (arith, l, low)) in
      choice_gives f ts m so pl (h ∙ ap (λ x. Some x) q) (subst (λ x. looseness x ≤ k) q l) g
  link_from (Some op) s i f ts m so pl h l g = joint_gives op f ts m so pl (h ∙ ap (λ x. Some x) i.0) (subst (λ n. n ≤ k) i.1 l)

  link_gives : (f : Formula) (ts m : List Terminal) → SoFar k f ts m → IsPlain m → goes k m ≡ true → Gives (link e f m) (λ g rest. SoFar k g ts rest × IsPlain rest)
  unfolding link
  link_gives f ts m so pl g =
      let q = goes_is k m g in
      subst (λ o. Gives (link_by o e f m) (λ h rest. SoFar k h ts rest × IsPlain rest)) (sym q.is) (link_from (binary_of q.mark) q.mark (link_is q.mark) f ts m so pl q.is q.binds g)

  turns_gives : (n : ℕ) (f : Formula) (ts m : List Terminal) → SoFar k f ts m → IsPlain m → Gives (turns n (goes k) (link e) f m) (λ g rest. SoFar k g ts rest × IsPlain rest)
  unfolding turns
  turns_gives zero f ts m so pl = record { given = (so, pl) }
  turns_gives (suc n) f ts m so pl =
      choose (goes k m) (and_then (link e f m) (turns n (goes k) (link e))) (Some (f, m))
      (λ g. bind (link_gives f ts m so pl g) (λ h r w. turns_gives n h ts r w.0 w.1))
      (λ g. record { given = (so, pl) })

  ended_gives : (f : Formula) (ts m : List Terminal) → SoFar k f ts m → IsPlain m → Gives (ended k f m) (λ g rest. (IsFormula k g ts rest × (goes k rest ≡ false)) × IsPlain rest)
  unfolding ended
  ended_gives f ts m so pl =
      choose (goes k m) None (Some (f, m)) (λ g. record { given = tt }) (λ g. record { given = ((wider so.most k so.within f ts m so.is, g), pl) })

  sequence_gives : (d : ℕ) → Sound (sequence d k e) (λ f ts rest. IsFormula k f ts rest × (goes k rest ≡ false))
  unfolding sequence chain
  sequence_gives d ts pl =
      bind (operand_gives e c ts pl)
      (λ f m w. bind (turns_gives d f ts m (record { most = 0; is = w.0; within = omega arith; next = λ i b g. (omega arith, omega arith) }) w.1)
      (λ g r v. ended_gives g ts r v.0 v.1))

-- what is read at each level has that level
pub climb_gives : (d : ℕ) → Levels (climb d)
unfolding climb
climb_gives zero k low ts pl = record { given = tt }
climb_gives (suc d) k low ts pl = sequence_gives (climb d) (climb_gives d) k low d ts pl

-- any expression
pub expression_gives : (d : ℕ) → Sound (expression d) IsExpression
expression_gives d = all_levels (climb d) (climb_gives d)

pub expressions : ExpressionsAreSound
expressions d ts rest f pl h =
    let g : Gives (Some (f, rest)) (λ x r. IsExpression x ts r × IsPlain r) = subst (λ o. Gives o (λ x r. IsExpression x ts r × IsPlain r)) h (expression_gives d ts pl) in
    g.given.0
