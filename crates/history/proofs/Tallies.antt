-- What a conclusion counts: as many pairs as the comparison's own steps have told. Assumes nothing.
use Rattle.std.proofs.Common.{◌≡◌, ℕ, ◌+◌, true, List, [], ◌∷◌, Ok, sym, ap, subst, inl, arith}
use Rattle.std.proofs.lemmas.Bool.{cond-true}
use Rattle.compare.specs.declared.area.Area.{Area}
use Rattle.compare.specs.declared.claim.Comparing.{Comparing}
use Rattle.compare.specs.declared.claim.Lease.{Lease}
use Rattle.compare.specs.declared.claim.Numbers.{Numbers}
use Rattle.compare.specs.declared.conclude.Concluded.{Concluded}
use Rattle.compare.specs.declared.conclude.Concluded.TheVariants as concluded
use Rattle.compare.specs.Concluding.{Conclusion}
use Rattle.compare.specs.View.{View}
use Rattle.history.specs.Calls.{Call, Runs, same_numbers, told_by, told}
use Rattle.history.specs.Comparisons.{Comparison, ConcludesNow}
use Rattle.history.specs.Law.{count_of}
use Rattle.history.proofs.Effects.{Effect, Keeps, Steps, Parts, effect, part_left, started_so}
use Rattle.history.proofs.Holders.{step_onward, Standing, stands_now, stands_on, started_held}
use Rattle.history.proofs.Verdicts.{concluder}

module _ (n : Numbers) where
  -- it holds the area, with so many pairs examined; or it has ended
  abbrev Tally : ℕ → Area → Type 0
  Tally k = Standing n (λ a. a.examined ≡ k)

  -- a step of its own examines as many as it tells, and no other call examines any
  tallied : (k : ℕ) (d : Call) (a a' : Area) → Effect d a a' → Tally k a → Tally (k + told_by n d) a'
  tallied k d a a' e = stands_on n (λ x. x.examined ≡ k) (λ x. x.examined ≡ k + told_by n d) kept stepped parted e
    where
      kept : Keeps d a a' → a.examined ≡ k → a'.examined ≡ k + told_by n d
      kept e so = omega (arith, so, e.tells n, ap (λ (x : Area). x.examined) e.same)

      stepped : (s : Steps d a a') → same_numbers n s.numbers ≡ true → a.examined ≡ k → a'.examined ≡ k + told_by n d
      stepped s its so =
          let tells : told_by n d ≡ s.answer.0 = subst (λ (x : Call). told_by n x ≡ s.answer.0) (sym s.is) (cond-true (same_numbers n s.numbers) s.answer.0 0 its) in
          omega (arith, so, tells, s.does.1.count, (step_onward s).examined)

      parted : Parts d a a' → a.examined ≡ k → a'.examined ≡ k + told_by n d
      parted p so = omega (arith, so, ap (told_by n) p.is, ap (λ (x : View). x.examined) (part_left p))

  run_tallied :
      (cs : List Call) (a now : Area) (k : ℕ) → Runs cs a now → Tally k a → Tally (k + told n cs) now
  run_tallied [] a now k runs tally = let none : k ≡ k + 0 = omega arith in subst (λ (i : ℕ). Tally i now) none (subst (Tally k) (sym runs) tally)
  run_tallied (d ∷ cs) a now k runs tally =
      let all : (k + told_by n d) + told n cs ≡ k + (told_by n d + told n cs) = omega arith in
      subst (λ (i : ℕ). Tally i now) all (run_tallied cs runs.0 now (k + told_by n d) runs.2 (tallied k d a runs.0 (effect d a runs.0 runs.1) tally))

-- a conclusion counts how many pairs are examined
counts_examined :
    (a a' : Area) (claim : Lease Comparing) (v : Concluded) → Conclusion a claim (Ok v) a' →
    count_of v ≡ a.examined
counts_examined a a' claim (concluded.Included n) does = does.1.1
counts_examined a a' claim (concluded.Apart k n apart) does = does.1.1

pub counted :
    (a : Area) (c : Comparison a) → (v : Concluded) → ConcludesNow c v →
    count_of v ≡ told c.claim c.since
counted a c v asked =
    let start : c.begun.examined ≡ 0 = ap (λ (x : View). x.examined) (started_so c).does.1.after in
    let tally = run_tallied c.claim c.since c.begun c.now 0 c.goes_on (inl (started_held c, start)) in
    let so = stands_now c.claim (λ a. a.examined ≡ 0 + told c.claim c.since) c.now tally (concluder c v asked) in
    omega (arith, counts_examined c.now asked.after asked.claim v asked.does, so)
