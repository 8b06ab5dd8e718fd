-- Modules, and whole texts.
use Rattle.std.proofs.Common.{ℕ, List, [], Some, refl, sym, subst}
use Rattle.text_ground.specs.declared.dropped.Dropped.{Dropped}
use Rattle.rtl_tree.specs.declared.symbol.Symbol.TheVariants as symbol
use Rattle.text_grammar.specs.Grammar.{AreAll}
use Rattle.text_grammar.specs.GrammarWritten.{IsWritten}
use Rattle.text_grammar.specs.GrammarModule.{IsCircuit, IsMarkedCircuit}
use Rattle.text_build.specs.Reading.{and_then, until}
use Rattle.text_build.specs.ReadingModule.{item, circuit_after, circuit, is_more, circuits}
use Rattle.text_build.specs.Sound.{IsPlain}
use Rattle.text_build.specs.ProperModule.{IsProperWritten, IsProperCircuit}
use Rattle.text_build.specs.Whole.{TextsAreSound}
use Rattle.text_build.proofs.Gives.{Gives, Sound, bind, weaken, behind, mark_gives, name_gives}
use Rattle.text_build.proofs.Lists.{until_gives, repeat_gives}
use Rattle.text_build.proofs.Each.{If, each_all}
use Rattle.text_build.proofs.CertainTargets.{no_attributes}
use Rattle.text_build.proofs.CertainGenerate.{item_gives}
use Rattle.text_build.proofs.Headers.{parameters_give, header_gives}

module _ (d : ℕ) (regions : List Dropped) where
  circuit_after_gives : Sound (circuit_after d regions) (If IsProperCircuit (IsCircuit regions))
  unfolding circuit_after
  circuit_after_gives ts pl =
      bind (mark_gives symbol.Module ts pl)
      (λ at m w. bind (name_gives m w.1)
      (λ n m1 v. bind (parameters_give d m1 v.1)
      (λ ps m2 q. bind (header_gives d m2 q.1)
      (λ h m3 r. bind (behind symbol.Semicolon (until symbol.Endmodule (item d)) (until_gives (item d) (If IsProperWritten IsWritten) (item_gives d d) symbol.Endmodule) m3 r.1)
      (λ is m4 x. bind (mark_gives symbol.Endmodule m4 x.1)
      (λ last m5 y. record {
        given = (λ p. (last, refl, (m, w.0, (m1, v.0, (m2, q.0 p.0, (m3, r.0, (x.0.0, x.0.1, (m4, each_all IsProperWritten IsWritten is x.0.0 m4 x.0.2 p.1, y.0))))))), y.1);
      }))))))

  circuit_gives : Sound (circuit d regions) (If IsProperCircuit (IsMarkedCircuit regions))
  unfolding circuit
  circuit_gives ts pl =
      subst (λ o. Gives (and_then o (λ marks. circuit_after d regions)) (λ c rest. If IsProperCircuit (IsMarkedCircuit regions) c ts rest × IsPlain rest)) (sym (no_attributes ts pl))
      (weaken (circuit_after_gives ts pl) (λ c rest w. (λ p. ([], (ts, refl, w.0 p)), w.1)))

  circuits_give : Sound (circuits d regions) (AreAll (If IsProperCircuit (IsMarkedCircuit regions)))
  unfolding circuits
  circuits_give ts pl = repeat_gives (circuit d regions) (If IsProperCircuit (IsMarkedCircuit regions)) circuit_gives is_more ts pl

-- whole texts
pub texts : TextsAreSound
texts d regions tokens cs pl h p =
    let g : Gives (Some (cs, [])) (λ xs r. AreAll (If IsProperCircuit (IsMarkedCircuit regions)) xs tokens r × IsPlain r) =
    subst (λ o. Gives o (λ xs r. AreAll (If IsProperCircuit (IsMarkedCircuit regions)) xs tokens r × IsPlain r)) h (circuits_give d regions tokens pl)
    in
    record { spelled = each_all IsProperCircuit (IsMarkedCircuit regions) cs tokens [] g.given.0 p }
