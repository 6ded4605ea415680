-- Which bytes are a name.
use Rattle.std.specs.Prelude.{ℕ, Bool, not, ◌&&◌, ◌||◌, nat_le, List, [], ◌∷◌, length, codes}
use Rattle.std.specs.List.{list_any}
use Rattle.jade_alphabet.specs.Letters.{is_word}
use Rattle.jade_alphabet.specs.declared.TheConstants.{WORD_LIMIT}
use Rattle.jade_syntax.specs.Abstract.{Name}
use Rattle.jade_syntax.specs.Numbering.{same_name}

-- the words of items and of values
abbrev pub item_words : List Name
item_words = codes "input" ∷ codes "object" ∷ codes "objects" ∷ codes "main" ∷ codes "int" ∷ codes "bool" ∷ codes "true" ∷ codes "false" ∷ []

-- the words of statements
abbrev pub statement_words : List Name
statement_words = codes "if" ∷ codes "else" ∷ codes "for" ∷ codes "in" ∷ codes "withonly" ∷ codes "do" ∷ codes "with" ∷ codes "cont" ∷ codes "proc" ∷ []

-- the words of declarations
abbrev pub declare_words : List Name
declare_words = codes "rd" ∷ codes "wr" ∷ codes "rd_wr" ∷ codes "df_rd" ∷ codes "df_wr" ∷ codes "df_rd_wr" ∷ codes "cm" ∷ codes "no_rd" ∷ codes "no_wr"
    ∷ codes "no_rd_wr" ∷ []

-- a word that the language keeps for itself
abbrev pub is_reserved : Name → Bool
is_reserved x = list_any (same_name x) item_words || list_any (same_name x) statement_words || list_any (same_name x) declare_words

-- a word of at most 64 bytes that is not reserved
abbrev pub is_name : List ℕ → Bool
is_name bytes = nat_le (length bytes) WORD_LIMIT && is_word bytes && not (is_reserved bytes)
