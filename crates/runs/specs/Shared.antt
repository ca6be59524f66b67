-- The claim of demand 3: 'one claim about whole runs, not steps'. Assumes nothing: these are definitions.
use Rattle.std.specs.Prelude.{◌≡◌, ◌↔◌, List, ℕ}
use Rattle.std.proofs.Math.Option.{Option, none, some}
use Rattle.std.proofs.Math.ListN.{get_elem?}
use Rattle.runs.specs.Rule.{TypedValue, CallsMade, Ending, passed, returns, halted}
use Rattle.runs.specs.TreeRun as Tree
use Rattle.runs.specs.TreeRun.{Ran, normal, broke, continued, returned, held, unfinished}
use Rattle.runs.specs.BodyRun.{Vars, Spot, spot, over, waits, lost}

-- ---- what is seen of a run: the calls so far, and how it ended

unfoldable pub calls_t : {W : Type 0} → Ran W → CallsMade W
calls_t (normal σ h) = h
calls_t (broke σ h) = h
calls_t (continued σ h) = h
calls_t (returned v h) = h
calls_t (Tree.stopped h) = h
calls_t (held h) = h
calls_t (unfinished h) = h

unfoldable pub end_t : {W : Type 0} → Ran W → Option (Ending W)
end_t (normal σ h) = some passed
end_t (broke σ h) = none
end_t (continued σ h) = none
end_t (returned v h) = some (returns v)
end_t (Tree.stopped h) = some halted
end_t (held h) = none
end_t (unfinished h) = none

unfoldable pub calls_b : {W : Type 0} → Spot W → CallsMade W
calls_b (spot p q ρ h) = h
calls_b (over e h) = h
calls_b (waits h) = h
calls_b (lost h) = h

unfoldable pub end_b : {W : Type 0} → Spot W → Option (Ending W)
end_b (spot p q ρ h) = none
end_b (over e h) = some e
end_b (waits h) = none
end_b (lost h) = none

-- ---- the claim

-- tree n: the tree's run with n turns of each entry of a loop; body n: the body's run after n steps; result: the function's return type
pub record Shared {W : Type 0} (tree : ℕ → Ran W) (body : ℕ → Spot W) (result : Option ℕ) : Type 0 where
  -- the one run makes a k-th call, of this function with these arguments, exactly when the other does: also where neither ends
  pub calls : (k : ℕ) (q : ℕ × List (TypedValue W)) →
      ((n : ℕ) × (get_elem? (calls_t (tree n)) k ≡ some q)) ↔ ((n : ℕ) × (get_elem? (calls_b (body n)) k ≡ some q))
  -- the one run ends so, with these calls behind it, exactly when the other does
  pub ends : (e : Ending W) (h : CallsMade W) →
      ((n : ℕ) × (end_t (tree n) ≡ some e) × (calls_t (tree n) ≡ h)) ↔ ((n : ℕ) × (end_b (body n) ≡ some e) × (calls_b (body n) ≡ h))
  -- the one run is held up by a pending reply, with these calls behind it, exactly when the other is
  pub held_up : (h : CallsMade W) → ((n : ℕ) × (tree n ≡ held h)) ↔ ((n : ℕ) × (body n ≡ waits h))
  -- with a return type neither passes the last line
  pub tree_returns : (y n : ℕ) → result ≡ some y → end_t (tree n) ≡ some passed → ⊥
  pub body_returns : (y n : ℕ) → result ≡ some y → end_b (body n) ≡ some passed → ⊥

-- the claim in document 01's words, for calls that the rule answers: 'running the tree and running the body show the same calls in the same order
-- with the same arguments, and end alike'
pub record SameRuns {W : Type 0} (tree : ℕ → Ran W) (body : ℕ → Spot W) (result : Option ℕ) : Type 0 where
  -- for every k the one makes a k-th call exactly when the other does, of the same function g with the same arguments us
  pub calls : (k g : ℕ) (us : List (TypedValue W)) →
      ((n : ℕ) × (get_elem? (calls_t (tree n)) k ≡ some (g, us))) ↔ ((n : ℕ) × (get_elem? (calls_b (body n)) k ≡ some (g, us)))
  -- the one ends exactly when the other does, and alike
  pub ends : (e : Ending W) → ((n : ℕ) × (end_t (tree n) ≡ some e)) ↔ ((n : ℕ) × (end_b (body n) ≡ some e))
  -- with a return type neither passes the last line
  pub tree_returns : (y n : ℕ) → result ≡ some y → end_t (tree n) ≡ some passed → ⊥
  pub body_returns : (y n : ℕ) → result ≡ some y → end_b (body n) ≡ some passed → ⊥

-- 'The body run starts with parameters in place, anything in other variables'
abbrev pub InPlace : {W : Type 0} → List W → Vars W → Type 0
InPlace {W} vs ρ = (i : ℕ) (v : W) → get_elem? vs i ≡ some v → ρ i ≡ v
