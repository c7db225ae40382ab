-- The name of a kind and the flags are read exactly as they are spelled.
use Rattle.std.proofs.Common.{◌≡◌, ◌&&◌, ◌==◌, ℕ, Bool, true, false, if◌then◌else◌, List, [], ◌∷◌, length, Some, None}
use Rattle.std.proofs.Common.{Ok, refl, sym, ap, ◌∙◌, arith}
use Rattle.std.specs.List.{list_all}
use Rattle.std.proofs.lemmas.Bool.Decides.{nat_tests}
use Rattle.brep_tokens.specs.declared.text.Token.{Token}
use Rattle.brep_tokens.specs.declared.fault.ReadCode.TheVariants as codes
use Rattle.entry_readers.specs.Begins.{Begins}
use Rattle.orientation.specs.Kinds.{kind_of_letters, kind_of_name, name_of}
use Rattle.orientation.specs.Laws.{SignsAndNamesTell}
use Rattle.orientation.specs.declared.kind.Kind.{Kind}
use Rattle.orientation.specs.declared.kind.Kind.TheVariants.{Ve, Ed, Wi, Fa, Sh, So, CS, Co}
use Rattle.brep_tokens.specs.Bytes.{is_flag}
use Rattle.tshape_data.specs.Flags.{are_flags, flag_code, flags_from, flags_of, spell_flags}
use Rattle.tshape_data.specs.HeadReading.{flags_at, kind_at}
use Rattle.tshape_data.specs.declared.head.Flags.{Flags}
use Rattle.tshape_data.proofs.ColumnLaws.{spelled_ok}

-- ---- kinds

letters_there : (a b : ℕ) (k : Kind) → kind_of_letters a b ≡ Some k → a ∷ b ∷ [] ≡ name_of k
letters_there a b Ve e = grind (arith, nat_tests)
letters_there a b Ed e = grind (arith, nat_tests)
letters_there a b Wi e = grind (arith, nat_tests)
letters_there a b Fa e = grind (arith, nat_tests)
letters_there a b Sh e = grind (arith, nat_tests)
letters_there a b So e = grind (arith, nat_tests)
letters_there a b CS e = grind (arith, nat_tests)
letters_there a b Co e = grind (arith, nat_tests)

name_there : (text : List ℕ) (k : Kind) → kind_of_name text ≡ Some k → text ≡ name_of k
name_there [] k e = absurd cc
name_there (a ∷ []) k e = absurd cc
name_there (a ∷ b ∷ []) k e = letters_there a b k e
name_there (a ∷ b ∷ c ∷ rest) k e = absurd cc

pub kind_takes : (ts rest : List Token) (k : Kind) → kind_at ts ≡ Ok (k, rest) → Begins ts (name_of k ∷ []) rest
kind_takes [] rest k e = absurd cc
kind_takes (t ∷ ts) rest k e =
    let s = spelled_ok codes.WordExpected t ts rest (kind_of_name t.text) k e in
    (name_there t.text k s.0, s.1)

pub kind_again : SignsAndNamesTell → (ts rest : List Token) (k : Kind) → Begins ts (name_of k ∷ []) rest
    → kind_at ts ≡ Ok (k, rest)
kind_again tell [] rest k b = absurd b
kind_again tell (t ∷ ts) rest k b = rw (b.0, tell.names k, b.1) refl

-- ---- flags

code_back : (b : ℕ) → is_flag b ≡ true → flag_code (b == 49) ≡ b
code_back b is = grind (arith, nat_tests)

both : (a b : Bool) → (a && b) ≡ true → (a ≡ true) × (b ≡ true)
both true b e = (refl, e)
both false b e = absurd cc

flags_back : (text : List ℕ) → length text ≡ 7 → list_all is_flag text ≡ true → spell_flags (flags_from text) ≡ text
flags_back [] n all = absurd (omega (arith, n))
flags_back (a ∷ []) n all = absurd (omega (arith, n))
flags_back (a ∷ b ∷ []) n all = absurd (omega (arith, n))
flags_back (a ∷ b ∷ c ∷ []) n all = absurd (omega (arith, n))
flags_back (a ∷ b ∷ c ∷ d ∷ []) n all = absurd (omega (arith, n))
flags_back (a ∷ b ∷ c ∷ d ∷ e ∷ []) n all = absurd (omega (arith, n))
flags_back (a ∷ b ∷ c ∷ d ∷ e ∷ f ∷ []) n all = absurd (omega (arith, n))
flags_back (a ∷ b ∷ c ∷ d ∷ e ∷ f ∷ g ∷ []) n all =
    let all1 = both (is_flag a) (list_all is_flag (b ∷ c ∷ d ∷ e ∷ f ∷ g ∷ [])) all in
    let all2 = both (is_flag b) (list_all is_flag (c ∷ d ∷ e ∷ f ∷ g ∷ [])) all1.1 in
    let all3 = both (is_flag c) (list_all is_flag (d ∷ e ∷ f ∷ g ∷ [])) all2.1 in
    let all4 = both (is_flag d) (list_all is_flag (e ∷ f ∷ g ∷ [])) all3.1 in
    let all5 = both (is_flag e) (list_all is_flag (f ∷ g ∷ [])) all4.1 in
    let all6 = both (is_flag f) (list_all is_flag (g ∷ [])) all5.1 in
    let all7 = both (is_flag g) (list_all is_flag []) all6.1 in
    rw (
      code_back a all1.0,
      code_back b all2.0,
      code_back c all3.0,
      code_back d all4.0,
      code_back e all5.0,
      code_back f all6.0,
      code_back g all7.0,
    ) refl
flags_back (a ∷ b ∷ c ∷ d ∷ e ∷ f ∷ g ∷ h ∷ rest) n all = absurd (omega (arith, n))

some_chosen : (b : Bool) (x y : Flags) → (if b then Some x else None) ≡ Some y → (b ≡ true) × (x ≡ y)
some_chosen true x y e = (refl, cc)
some_chosen false x y e = absurd cc

is_seven : (n : ℕ) → (n == 7) ≡ true → n ≡ 7
is_seven n e = grind (arith, nat_tests)

flags_there : (text : List ℕ) (f : Flags) → flags_of text ≡ Some f → text ≡ spell_flags f
flags_there text f e =
    let s = some_chosen (are_flags text) (flags_from text) f e in
    let seven = both (length text == 7) (list_all is_flag text) s.0 in
    sym (flags_back text (is_seven (length text) seven.0) seven.1) ∙ ap spell_flags s.1

code_is : (b : Bool) → is_flag (flag_code b) ≡ true
code_is true = refl
code_is false = refl

pub flags_pass : (f : Flags) → list_all is_flag (spell_flags f) ≡ true
flags_pass f = rw (
  code_is f.free,
  code_is f.modified,
  code_is f.checked,
  code_is f.orientable,
  code_is f.closed,
  code_is f.infinite,
  code_is f.convex,
) refl

code_tells : (b : Bool) → (flag_code b == 49) ≡ b
code_tells true = refl
code_tells false = refl

flags_again_of : (f : Flags) → flags_of (spell_flags f) ≡ Some f
flags_again_of f =
    rw (
      code_is f.free,
      code_is f.modified,
      code_is f.checked,
      code_is f.orientable,
      code_is f.closed,
      code_is f.infinite,
      code_is f.convex,
      code_tells f.free,
      code_tells f.modified,
      code_tells f.checked,
      code_tells f.orientable,
      code_tells f.closed,
      code_tells f.infinite,
      code_tells f.convex,
    ) refl

pub flags_takes : (ts rest : List Token) (f : Flags) → flags_at ts ≡ Ok (f, rest) → Begins ts (spell_flags f ∷ []) rest
flags_takes [] rest f e = absurd cc
flags_takes (t ∷ ts) rest f e =
    let s = spelled_ok codes.FlagExpected t ts rest (flags_of t.text) f e in
    (flags_there t.text f s.0, s.1)

pub flags_again : (ts rest : List Token) (f : Flags) → Begins ts (spell_flags f ∷ []) rest → flags_at ts ≡ Ok (f, rest)
flags_again [] rest f b = absurd b
flags_again (t ∷ ts) rest f b = rw (b.0, flags_again_of f, b.1) refl
