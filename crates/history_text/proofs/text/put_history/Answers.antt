use Rattle.std.proofs.Common.{◌++◌}
use Rattle.history_text.proofs.SendingLaws.{Sends-on, Stopped-first, Stopped-within, Sent-then, Sends-behind}
use Rattle.history_text.proofs.LineLaws.{first_part, origins_part, modified_part, generated_part, removed_part, last_part, history_parts, with_origins, with_modified, with_generated, with_all}
use Rattle.history_text.proofs.text.put_history.Goals as goal

pub returns-in_err-put-clause-sends : goal.returns-in_err-put-clause-sends
returns-in_err-put-clause-sends g c =
    Sends-on _ _ _ _ _ _ _ _ c.in_err-put.field-0.0 c.from_residual.ensures.1
    (Stopped-first _ _ _ _ _ first_part _ _ _ (history_parts c.args.h.now) c.in_err-put.ensures.sends)

pub returns-in_err-put_origins-clause-sends : goal.returns-in_err-put_origins-clause-sends
returns-in_err-put_origins-clause-sends g c =
    Sends-on _ _ _ _ _ _ _ _ c.in_err-put_origins.field-0.0 c.from_residual-in_err-put_origins.ensures.1
    (Stopped-within _ _ _ _ _ _ _ (first_part) (origins_part c.args.h.now) (modified_part c.args.h.now ++ (generated_part c.args.h.now ++ (removed_part c.args.h.now ++ last_part))) _ _ c.in_ok-put.ensures.sends c.in_err-put_origins.ensures.sends (history_parts c.args.h.now))

pub returns-in_err-put_pairs-clause-sends : goal.returns-in_err-put_pairs-clause-sends
returns-in_err-put_pairs-clause-sends g c =
    let one = Sent-then _ _ _ _ _ _ _ _ (first_part) (origins_part c.args.h.now) c.in_ok-put.ensures.sends c.in_ok-put_origins.ensures.sends in
    Sends-on _ _ _ _ _ _ _ _ c.in_err-put_pairs.field-0.0 c.from_residual-in_err-put_pairs.ensures.1
    (Stopped-within _ _ _ _ _ _ _ ((first_part ++ (origins_part c.args.h.now))) (modified_part c.args.h.now) (generated_part c.args.h.now ++ (removed_part c.args.h.now ++ last_part)) _ _ one c.in_err-put_pairs.ensures.sends (with_origins c.args.h.now))

pub returns-in_err-put_pairs-2-clause-sends : goal.returns-in_err-put_pairs-2-clause-sends
returns-in_err-put_pairs-2-clause-sends g c =
    let one = Sent-then _ _ _ _ _ _ _ _ (first_part) (origins_part c.args.h.now) c.in_ok-put.ensures.sends c.in_ok-put_origins.ensures.sends in
    let two = Sent-then _ _ _ _ _ _ _ _ ((first_part ++ (origins_part c.args.h.now))) (modified_part c.args.h.now) one c.in_ok-put_pairs.ensures.sends in
    Sends-on _ _ _ _ _ _ _ _ c.in_err-put_pairs-2.field-0.0 c.from_residual-in_err-put_pairs-2.ensures.1
    (Stopped-within _ _ _ _ _ _ _ (((first_part ++ (origins_part c.args.h.now)) ++ (modified_part c.args.h.now))) (generated_part c.args.h.now) (removed_part c.args.h.now ++ last_part) _ _ two c.in_err-put_pairs-2.ensures.sends (with_modified c.args.h.now))

pub returns-in_err-put_removed-clause-sends : goal.returns-in_err-put_removed-clause-sends
returns-in_err-put_removed-clause-sends g c =
    let one = Sent-then _ _ _ _ _ _ _ _ (first_part) (origins_part c.args.h.now) c.in_ok-put.ensures.sends c.in_ok-put_origins.ensures.sends in
    let two = Sent-then _ _ _ _ _ _ _ _ ((first_part ++ (origins_part c.args.h.now))) (modified_part c.args.h.now) one c.in_ok-put_pairs.ensures.sends in
    let three = Sent-then _ _ _ _ _ _ _ _ (((first_part ++ (origins_part c.args.h.now)) ++ (modified_part c.args.h.now))) (generated_part c.args.h.now) two c.in_ok-put_pairs-2.ensures.sends in
    Sends-on _ _ _ _ _ _ _ _ c.in_err-put_removed.field-0.0 c.from_residual-in_err-put_removed.ensures.1
    (Stopped-within _ _ _ _ _ _ _ ((((first_part ++ (origins_part c.args.h.now)) ++ (modified_part c.args.h.now)) ++ (generated_part c.args.h.now))) (removed_part c.args.h.now) (last_part) _ _ three c.in_err-put_removed.ensures.sends (with_generated c.args.h.now))

pub returns-clause-sends : goal.returns-clause-sends
returns-clause-sends g c =
    let one = Sent-then _ _ _ _ _ _ _ _ (first_part) (origins_part c.args.h.now) c.in_ok-put.ensures.sends c.in_ok-put_origins.ensures.sends in
    let two = Sent-then _ _ _ _ _ _ _ _ ((first_part ++ (origins_part c.args.h.now))) (modified_part c.args.h.now) one c.in_ok-put_pairs.ensures.sends in
    let three = Sent-then _ _ _ _ _ _ _ _ (((first_part ++ (origins_part c.args.h.now)) ++ (modified_part c.args.h.now))) (generated_part c.args.h.now) two c.in_ok-put_pairs-2.ensures.sends in
    let four = Sent-then _ _ _ _ _ _ _ _ ((((first_part ++ (origins_part c.args.h.now)) ++ (modified_part c.args.h.now)) ++ (generated_part c.args.h.now))) (removed_part c.args.h.now) three c.in_ok-put_removed.ensures.sends in
    Sends-behind _ _ _ _ _ _ _ _ (((((first_part ++ (origins_part c.args.h.now)) ++ (modified_part c.args.h.now)) ++ (generated_part c.args.h.now)) ++ (removed_part c.args.h.now))) _ _ _ (with_all c.args.h.now) four c.put-2.ensures.sends
