use Rattle.std.proofs.Common.{◌∙◌, ap, arith, length, refl, rules}
use Rattle.std.proofs.lemmas.List.{length-drop, take_rest}
use Rattle.brep_desk.proofs.Pieces.{Appended-then, Appended-kept, Appended-whole}
use Rattle.brep_desk.proofs.transfers.write_all.Goals as goal

pub loop-taken-preserved : goal.loop-taken-preserved
loop-taken-preserved g c =
    let writes = rw take_rest at c.in-Ok.ensures.writes in
    record {
      no_fault = c.in-Ok.ensures.cause.no_fault ∙ c.loop-taken.invariant.no_fault;
      so_far = Appended-then _ _ _ _ _ _ _ _ (omega arith) c.loop-taken.invariant.so_far writes;
      strays = search rules;
      writing_calls =
          λ told. omega (arith, c.loop-taken.invariant.writing_calls told, c.in-Ok.ensures.writing_calls.later told);
      calls =
          λ _ told. omega (
            arith,
            c.loop-taken.invariant.writing_calls told,
            c.in-Ok.ensures.writing_calls.rose told refl,
          );
      no_call =
          λ none. absurd (omega (
            arith,
            none,
            writes.some (omega (arith, length-drop c.loop-taken.taken c.args.bytes.now)),
          ));
    }

pub returns-in-Err-clause-writing_calls : goal.returns-in-Err-clause-writing_calls
returns-in-Err-clause-writing_calls g c told =
    omega (arith, c.loop-taken.invariant.writing_calls told, c.in-Err.ensures.writing_calls.later told)

pub returns-in-Err-clause-calls : goal.returns-in-Err-clause-calls
returns-in-Err-clause-calls g c some told =
    omega (arith, c.loop-taken.invariant.writing_calls told, c.in-Err.ensures.writing_calls.rose told refl)

pub returns-clause-calls : goal.returns-clause-calls
returns-clause-calls g c some told = c.loop-taken.invariant.calls (omega (arith, some, c.loop-taken-test.false)) told

pub returns-clause-no_call : goal.returns-clause-no_call
returns-clause-no_call g c none =
    c.loop-taken.invariant.no_call (omega (arith, c.loop-taken.invariant.so_far.fits, ap length none))

pub returns-in-Err-clause-part : goal.returns-in-Err-clause-part
returns-in-Err-clause-part g c = Appended-kept _ _ _ _ _ _ _ c.loop-taken.invariant.so_far c.in-Err.ensures.unchanged

pub returns-clause-whole : goal.returns-clause-whole
returns-clause-whole g c = Appended-whole _ _ _ _ _ _ c.loop-taken-test.false c.loop-taken.invariant.so_far
