-- What the call gives, by what its two readings tell.
-- Assumes nothing.
use mathlib.Core.Path.{◌≡◌, sym, ap, ◌∙◌}
use mathlib.Core.Bool.{true}
use mathlib.Core.List.{List}
use Prim.Native.Nat.{ℕ, ◌*◌, ◌≤◌, ◌<◌}
use native.Mathlib.Omega.{arith}
use lib.ListN.{length, drop}
use borrow.Author.Tests.{lt-ltb, le-ltb}
use Rattle.answer.specs.Answers.{Wrote, stored}
use Rattle.answer.specs.Answers.{Answer}
use Rattle.answer.specs.Answers.{accepted_with}
use Rattle.std.specs.Prelude.{Err}
use Rattle.answer.specs.declared.Refusal.TheVariants.{Room}
use Rattle.header.specs.Inner.Heads.{is_done, head_of}
use Rattle.header.specs.declared.Head.{Head}
use Rattle.formula.specs.Tables.{node_bytes, most_nodes}
use Rattle.satfile.specs.Trees.{Tree, size_of, table_of}
use Rattle.satfile.specs.Texts.{sat}
use Rattle.satfile.specs.Inner.Reads.{Out, whole_in}
use Rattle.satfile.specs.Inner.Parts.{DoneTo}
use Rattle.satfile.specs.Inner.Calls.{body_call, read_call}
use Rattle.satfile.specs.declared.lead.Reader.{Reader}
use Rattle.satfile.specs.Calls.{tree_call}
use Rattle.satfile.proofs.Laws.Records.{length_records}
use Rattle.satfile.proofs.Laws.Rests.{taken, left}

-- a call that answered and left the buffer in some way
abbrev gave : Answer → List ℕ → Wrote (List ℕ)
gave a l = record { answer = a; output = l }

module _ (text buffer : List ℕ) (h : Head) (e : h ≡ head_of sat text) where
  -- the head is read
  module _ (d : is_done h.phase ≡ true) where
    abbrev out : Out Tree
    out = whole_in h.value (drop h.place text)

    by_body : body_call text h.value out buffer ≡ read_call text buffer
    by_body =
        ap (λ (x : Head). body_call text x.value (whole_in x.value (drop x.place text)) buffer) e
        ∙ sym (taken _ _ _ (ap (λ (x : Head). is_done x.phase) (sym e) ∙ d))

    module _ {reader : Reader} {before after : List ℕ} {at nodes : ℕ} (x : DoneTo reader before h.place 0 out at nodes after) where
      by_tree : tree_call h.value x.tree buffer ≡ read_call text buffer
      by_tree = sym (ap (λ (o : Out Tree). body_call text h.value o buffer) x.to.out) ∙ by_body

      count : size_of x.tree ≡ nodes
      count = omega (arith, x.adds.nodes)

      bytes : length (table_of x.tree) ≡ node_bytes * nodes
      bytes = length_records 0 x.tree ∙ ap (λ (n : ℕ). node_bytes * n) count

      module _ (few : nodes ≤ most_nodes) where
        by_store : stored (accepted_with h.value (size_of x.tree)) (table_of x.tree) buffer ≡ read_call text buffer
        by_store =
            let within : size_of x.tree ≤ most_nodes = omega (arith, count) in
            sym (left _ _ _ (le-ltb _ _ within)) ∙ by_tree

        pub call_short : length buffer < node_bytes * nodes → gave (Err Room) buffer ≡ read_call text buffer
        call_short m =
            let over : length buffer < length (table_of x.tree) = omega (arith, bytes) in
            sym (taken _ _ _ (lt-ltb _ _ over)) ∙ by_store
