-- Every code table is read and written both ways. Assumes nothing.
use Rattle.std.proofs.Common.{◌≡◌, ℕ, true, is_some, Some, None, Option, sym, refl, ap, ◌∙◌, arith}
use Rattle.charset.specs.Characters.{characters, is_character}
use Rattle.charset.specs.Tables.{decoded, encoded, ReadsBack, WritesBack}
use Rattle.charset.specs.declared.code_table.CodeTable.{CodeTable}
use Rattle.charset.proofs.Lookup.{found_among, found_value}
use Rattle.charset.proofs.Inverse.{once, lookup_back}

module _ (t : CodeTable) where
  pub decoded_back : (c b : ℕ) → encoded t c ≡ Some b → decoded t b ≡ Some c
  decoded_back c b h = lookup_back characters t.bytes c b (sym t.complete) (once t.bytes t.apart) h

  pub encoded_back : (c b : ℕ) → decoded t b ≡ Some c → encoded t c ≡ Some b
  encoded_back c b h = lookup_back t.bytes characters b c t.complete (once characters refl) h

  pub reads_back : (c : ℕ) (o : Option ℕ) → o ≡ encoded t c → ReadsBack t c o
  unfolding is_character
  reads_back c None h = sym (found_among characters t.bytes c (sym t.complete)) ∙ ap is_some (sym h)
  reads_back c (Some b) h = decoded_back c b (sym h)

  pub writes_back : (b : ℕ) (o : Option ℕ) → o ≡ decoded t b → WritesBack t b o
  writes_back b None h = λ c e. let d = decoded_back c b e in let z : ◌≡◌ {A = ℕ} 0 1 = cc in omega arith
  writes_back b (Some c) h = encoded_back c b (sym h)

  -- what a byte reads as is a character
  pub decoded_character : (b c : ℕ) → decoded t b ≡ Some c → is_character c ≡ true
  unfolding is_character
  decoded_character b c h = found_value t.bytes characters b c h

  -- a character has a byte, and nothing else has
  pub encoded_some : (c : ℕ) → is_some (encoded t c) ≡ is_character c
  unfolding is_character
  encoded_some c = found_among characters t.bytes c (sym t.complete)
