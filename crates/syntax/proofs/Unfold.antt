-- One level of the syntax tree: what a record stands for, made from what the records that it refers to stand for.
-- By the law of `fix`: each kind's definition looks at lower records alone. Assumes nothing.
use mathlib.Core.Path.{◌≡◌, refl}
use mathlib.Core.List.{List, [], ◌∷◌}
use Prim.Native.Nat.{ℕ, zero, suc, ◌<◌}
use lib.ListN.{get_or}
use Rattle.laws.proofs.FixLaws.{Agree, Local, below_cong, below_in, fix-step}
use Rattle.records.specs.Words.{kind_of, word_of, A, B, C, D, E}
use Rattle.syntax.specs.Decode.{Node, absent, child, expr_in, block_in, nothing_at, int_at, float_at, str_at, bool_at, name_at, null_at, size_of_at, unary_at, binary_at, call_at, list_at, value_at, type_argument_at, declare_at, init_at, return_at, call_statement_at, if_at, while_at, for_at, break_at, continue_at, variable_at, function_at, kinds, node_step, node}

-- every step of a list looks below its number alone
abbrev AllLocal : List ((ℕ → Node) → ℕ → Node) → Type 0
AllLocal [] = Unit {0}
AllLocal (f ∷ l) = Local f × AllLocal l

local_at : (l : List ((ℕ → Node) → ℕ → Node)) (d : (ℕ → Node) → ℕ → Node) → AllLocal l → Local d → (n : ℕ) → Local (get_or l n d)
local_at [] d a b n = b
local_at (f ∷ l) d a b zero = a.0
local_at (f ∷ l) d a b (suc n) = local_at l d a.1 b n

module _ (tree text : List ℕ) where
  child_cong : (g h : ℕ → Node) (r k : ℕ) → Agree g h r → child tree text g r k ≡ child tree text h r k
  unfolding child
  child_cong g h r k a = below_cong g h r (word_of tree r k) absent (a (word_of tree r k))

  unary_local : Local (unary_at tree text)
  unfolding unary_at expr_in
  unary_local g h r a = rw (child_cong g h r A a)

  binary_local : Local (binary_at tree text)
  unfolding binary_at expr_in
  binary_local g h r a = rw (child_cong g h r A a, child_cong g h r B a)

  call_local : Local (call_at tree text)
  unfolding call_at
  call_local g h r a = rw (child_cong g h r C a)

  list_local : Local (list_at tree text)
  unfolding list_at
  list_local g h r a = rw (child_cong g h r A a, child_cong g h r B a)

  value_local : Local (value_at tree text)
  unfolding value_at expr_in
  value_local g h r a = rw (child_cong g h r A a)

  init_local : Local (init_at tree text)
  unfolding init_at expr_in
  init_local g h r a = rw (child_cong g h r C a)

  return_local : Local (return_at tree text)
  unfolding return_at expr_in
  return_local g h r a = rw (child_cong g h r A a)

  call_statement_local : Local (call_statement_at tree text)
  unfolding call_statement_at expr_in
  call_statement_local g h r a = rw (child_cong g h r A a)

  if_local : Local (if_at tree text)
  unfolding if_at expr_in block_in
  if_local g h r a = rw (child_cong g h r A a, child_cong g h r B a, child_cong g h r C a)

  while_local : Local (while_at tree text)
  unfolding while_at expr_in block_in
  while_local g h r a = rw (child_cong g h r A a, child_cong g h r B a)

  for_local : Local (for_at tree text)
  unfolding for_at expr_in block_in
  for_local g h r a = rw (child_cong g h r A a, child_cong g h r B a, child_cong g h r C a, child_cong g h r D a)

  function_local : Local (function_at tree text)
  unfolding function_at expr_in block_in
  function_local g h r a = rw (child_cong g h r A a, child_cong g h r B a, child_cong g h r C a, child_cong g h r E a)

  -- the kinds that refer to no other node
  leaf : (f : ℕ → Node) → Local (λ g r. f r)
  leaf f g h r a = refl

  none_local : Local (nothing_at tree text)
  unfolding nothing_at
  none_local = leaf _

  kinds_local : AllLocal (kinds tree text)
  unfolding kinds nothing_at int_at float_at str_at bool_at name_at null_at size_of_at type_argument_at declare_at break_at continue_at variable_at
  kinds_local = (
    leaf _,
    (
      leaf _,
      (
        leaf _,
        (
          leaf _,
          (
            leaf _,
            (
              leaf _,
              (
                leaf _,
                (
                  leaf _,
                  (
                    leaf _,
                    (
                      unary_local,
                      (
                        binary_local,
                        (
                          call_local,
                          (
                            list_local,
                            (
                              value_local,
                              (
                                leaf _,
                                (
                                  leaf _,
                                  (
                                    init_local,
                                    (
                                      return_local,
                                      (
                                        call_statement_local,
                                        (
                                          if_local,
                                          (
                                            while_local,
                                            (for_local, (leaf _, (leaf _, (leaf _, (function_local, tt))))),
                                          ),
                                        ),
                                      ),
                                    ),
                                  ),
                                ),
                              ),
                            ),
                          ),
                        ),
                      ),
                    ),
                  ),
                ),
              ),
            ),
          ),
        ),
      ),
    ),
  )

  step_local : Local (node_step tree text)
  unfolding node_step
  step_local g h r a = local_at (kinds tree text) (nothing_at tree text) kinds_local none_local (kind_of tree r) g h r a

  -- THE LAW that proofs cite: record r, of kind k, stands for what the definition of kind k makes of lower records
  pub node-is : (r k : ℕ) → k ≡ kind_of tree r → node tree text r ≡ get_or (kinds tree text) k (nothing_at tree text) (node tree text) r
  unfolding node node_step
  node-is r k e = rw e (fix-step absent (node_step tree text) step_local r)

  -- what a lower record in word k stands for
  pub child-is : (r k : ℕ) → word_of tree r k < r → child tree text (node tree text) r k ≡ node tree text (word_of tree r k)
  unfolding child
  child-is r k h = below_in (node tree text) r (word_of tree r k) absent h
