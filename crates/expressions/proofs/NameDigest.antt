-- The digest of a verb with its suffixes goes on from the verb's: what was asked is the digest at hand, gone on over the suffixes that are left.
-- By the law of texts one behind the other, cell by cell. Assumes nothing.
use mathlib.Core.Path.{◌≡◌, sym, ap, ap₂, ◌∙◌}
use mathlib.Core.List.{List, [], ◌∷◌}
use Prim.Native.Nat.{ℕ, ◌<◌}
use lib.ListN.{take}
use Rattle.records.specs.Digest.{roll_step, roll_from, roll_of}
use Rattle.records.specs.Words.{word_of, text_at, none, B}
use Rattle.records.proofs.RollLaws.{roll_append}
use Rattle.syntax.specs.Syntax.{Text}
use Rattle.syntax.specs.Decode.{program, key_at}
use Rattle.conversion.specs.Expressions.{dollar, joined}
use Rattle.keys.specs.declared.parts.Part.{Part}
use Rattle.keys.specs.Parts.{PartIs}
use Rattle.keys.specs.Keys.{all_keys}
use Rattle.expressions.specs.declared.arguments.Call.{Call}
use Rattle.expressions.specs.Calls.{suffixes_at, verb_of, name_of, Argued, Called}
use Rattle.expressions.proofs.NameLaws.{joined-verb, name_is_lem, all-taken}
use Rattle.expressions.proofs.SuffixLaws.{First, no-suffixes}

module _ (tree text s : List ℕ) where
  -- some suffixes, one after the other
  abbrev Behind : List Text → Text
  Behind l = joined (program tree text) (all_keys tree text) [] l

-- from digest d₀ at the first cell on the digest came to d at cell w
pub record Rolled (tree text s : List ℕ) (d₀ first d w : ℕ) : Type 0 where
  pub argued : Argued tree text s w
  pub small : d < 4294967291
  pub asked : roll_from d₀ (Behind tree text s (suffixes_at tree text s first)) ≡ roll_from d (Behind tree text s (suffixes_at tree text s w))

module _ (tree text s : List ℕ) where
  module _ (d₀ first d w : ℕ) (h : Rolled tree text s d₀ first d w) where
    pub rolled-more : (y : ℕ) (p : Part) → First tree text s w y → PartIs text p (key_at tree text y) → (x : ℕ) → x ≡ roll_step d 36 → (r : ℕ)
        → (r ≡ roll_from x (text_at text p.offset p.len)) × (r < 4294967291) → Rolled tree text s d₀ first r (word_of tree w B)
    unfolding roll_from joined
    rolled-more y p f is x ex r er =
        let rest : List Text = suffixes_at tree text s (word_of tree w B) in
        record {
          argued = f.rest;
          small = er.1;
          asked =
              h.asked
              ∙ ap (λ (l : List Text). roll_from d (Behind tree text s l)) f.is
              ∙ ap (roll_from d) (joined-verb (program tree text) (all_keys tree text) (dollar ∷ key_at tree text y) rest)
              ∙ roll_append (roll_step d dollar) (key_at tree text y) (Behind tree text s rest)
              ∙ ap₂ (λ (z : ℕ) (t : Text). roll_from (roll_from z t) (Behind tree text s rest)) (sym ex) (sym is.is)
              ∙ ap (λ (z : ℕ). roll_from z (Behind tree text s rest)) (sym er.0);
        }

    -- at the end, where it began with the verb's
    pub rolled_end : w ≡ none → (c : Call) → Called tree text s c → first ≡ c.first → d₀ ≡ roll_from 1 (verb_of tree text s c) → d ≡ roll_of (name_of tree text s c c.count)
    unfolding roll_from joined
    rolled_end e c called ef ed =
        sym (h.asked ∙ ap (λ (l : List Text). roll_from d (Behind tree text s l)) (no-suffixes tree text s w h.argued.good e))
        ∙ ap₂ (λ (x : ℕ) (l : List Text). roll_from x (Behind tree text s l)) ed (ap (suffixes_at tree text s) ef ∙ sym (all-taken tree text s c called))
        ∙ sym (roll_append 1 (verb_of tree text s c) (Behind tree text s (take c.count (suffixes_at tree text s c.first))))
        ∙ ap roll_of (sym (name_is_lem tree text s c c.count))
