-- One more factor is read, and its word is multiplied out.
use Rattle.std.proofs.Common.{◌≡◌, List, length, [], Ok, to_z, of_z, w64, refl, ap, sym, subst, ◌∙◌}
use Rattle.std.proofs.lemmas.Int.{to_z-of_z}
use Rattle.lists.specs.Results.{◌>>=◌}
use Rattle.entry_readers.specs.Reading.{Read}
use Rattle.location_table.specs.declared.entry.Factor.{Factor}
use Rattle.location_table.specs.declared.entry.LocationEntry.{LocationEntry}
use Rattle.location_table.specs.declared.entry.LocationEntry.TheVariants.{Product}
use Rattle.location_table.specs.Limits.{AreWithin}
use Rattle.location_table.specs.Locations.{factor, factors_from}
use Rattle.location_table.specs.Words.{word_of_factors, words_of}
use Rattle.location_table.proofs.Taken.{taken}
use Rattle.location_table.proofs.reader.LocationReader.take_factor.Goals as goal

abbrev product : Read (List Factor) → Read LocationEntry
product read = read >>= λ f. Ok (Product f.0, f.1)

pub returns : goal.returns
returns c =
    let q : to_z w64 (of_z w64 c.args.power) ≡ c.args.power = to_z-of_z w64 c.args.power c.ranges.power in
    let e = c.in_ok-word.ensures in
    let pushed = rw q at c.in_ok-push.ensures.ok in
    let is = taken c.args.before.now c.args.self.now.factors (factor c.args.place c.args.power)
    c.in_ok-word.word c.args.self.now.word c.word.result.now (to_z w64 (of_z w64 c.args.power))
    c.requires.holds.within c.requires.from c.requires.earlier c.requires.holds.word c.word.ensures.word q
    (record { passes = e.within; factors = e.factors; power_is = e.power; product = e.word; made = e.ok }) in (
      λ rest. ap (λ fs. product (factors_from (length c.args.before.now) (words_of c.args.before.now) fs rest)) pushed
          ∙ ap product (sym (is.read c.args.t.now rest (c.requires.answer rest))),
      refl,
      record {
        word = is.word ∙ ap (word_of_factors (words_of c.args.before.now)) (sym pushed);
        within = subst (AreWithin (length c.args.before.now) (words_of c.args.before.now) []) (sym pushed) is.within;
      },
    )
