-- The text of clause bytes, word by word.
-- Assumes nothing: these are definitions.
use Rattle.std.specs.Prelude.{cond, List, [], ◌∷◌, ◌++◌, ℕ, eqb}
use Rattle.clausebytes.specs.Words.{words_of, literal_of}
use Rattle.dimacs.specs.Texts.{header_line, literal_text}

abbrev pub word_text : ℕ → List ℕ
word_text w = cond (eqb w 0) (48 ∷ 10 ∷ []) (literal_text (literal_of w) ++ (32 ∷ []))

unfoldable pub words_text : List ℕ → List ℕ
words_text [] = []
words_text (w ∷ ws) = word_text w ++ words_text ws

abbrev pub text_of : List ℕ → ℕ → ℕ → List ℕ
text_of bytes v k = header_line v k ++ words_text (words_of bytes)
