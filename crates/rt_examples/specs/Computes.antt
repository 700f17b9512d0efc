-- All that the examples compute with: `unfolding computes` opens it. A verdict that a policy decides is taken apart by
-- hand, so `but_verdicts` leaves verdicts shut.
use Rattle.std.specs.Fmt.{digits}
use Rattle.sha2.specs.Sha256.{sha256, compress, rounds, schedule, first_words, hash_after, digest_bytes}
use Rattle.base64.specs.GeneralPurpose.{decoded_of}
use Rattle.base64.specs.Rfc4648.{encode_symbols}
use Rattle.base64.specs.Decode.{groups_error, groups_bytes, scan_steps}
use Rattle.rt_token.specs.Hmac.{hmac_sha256}
use Rattle.rt_token.specs.Claims.{claims_in_tree}
use Rattle.rt_token.specs.Tokens.{claims_in_token, signed_token}
use Rattle.rt_value.specs.Calendar.{is_date, day_of, passed_years, months_and_day_at}
use Rattle.rt_value.specs.Edits.{tables_after}
use Rattle.rt_value.specs.Moments.{looks_like, two_at, day_in_text, clock, civil_in_text, fraction_in_text, is_zone, zone_in_text, instant_of, instant_in_text, moment_in_text, is_in_years, fraction_places, fraction_shown, date_shown, clock_shown, instant_shown, moment_shown}
use Rattle.rt_json.specs.Computes.{json_computes}
use Rattle.rt_phx.specs.Frame.{message_of}
use Rattle.rt_phx.specs.Joins.{config_of}
use Rattle.rt_filter.specs.Written.{filter_of}
use Rattle.rt_filter.specs.Tests.{test_of}
use Rattle.rt_registry.specs.Bindings.{bindings_for}
use Rattle.rt_private.specs.Rights.{messages_of, right, denial}
use Rattle.rt_change.specs.Verdicts.{verdict_of}
use Rattle.rt_change.specs.Shape.{shape_of}
use Rattle.rt_channel.specs.Effects.{end_effects, tick_effects, effects_of}
use Rattle.rt_entry.specs.Story.{joined, departed, members_at, standing_at, ids_given, all_tracks, present_at, edits_at}
use Rattle.rt_entry.specs.Story.{every_slot, now_of}
use Rattle.rt_entry.specs.Joining.{standing_for, channel_of_join, renewal_of}
use Rattle.rt_entry.specs.Doings.{subscriptions, poll_parts, doings, story}
use Rattle.rt_entry.specs.Answers.{told, answers_by, all_answers, answers_of_marks, marks_of, lane_marks}
use Rattle.rt_entry.specs.Machine.{shown, pending, step_of, run}

-- what a story asks of what stands before
unfoldable pub asked : Unit {0}
unfolding joined departed members_at standing_at ids_given all_tracks present_at edits_at every_slot now_of
asked = tt

-- joins and renewals
unfoldable pub admitted : Unit {0}
unfolding config_of filter_of test_of bindings_for standing_for channel_of_join renewal_of messages_of right denial
admitted = tt

unfoldable pub done : Unit {0}
unfolding subscriptions poll_parts doings story
done = tt

-- what a socket asks for
unfoldable pub wished : Unit {0}
unfolding json_computes digits message_of admitted end_effects tick_effects effects_of
wished = tt

-- what slots get, and the machine
unfoldable pub given : Unit {0}
unfolding told answers_by all_answers answers_of_marks marks_of lane_marks shown pending step_of run
given = tt

unfoldable pub but_verdicts : Unit {0}
unfolding json_computes digits tables_after message_of shape_of asked admitted done given
but_verdicts = tt

unfoldable pub computes : Unit {0}
unfolding but_verdicts verdict_of
computes = tt

unfoldable pub base64 : Unit {0}
unfolding decoded_of groups_error groups_bytes scan_steps encode_symbols
base64 = tt

unfoldable pub hashes : Unit {0}
unfolding hmac_sha256 sha256 compress rounds schedule first_words hash_after digest_bytes
hashes = tt

-- what a token is computed with
unfoldable pub token_computes : Unit {0}
unfolding claims_in_token signed_token claims_in_tree hashes base64
token_computes = tt

-- what a moment is read and shown with
unfoldable pub moment_computes : Unit {0}
unfolding is_date day_of passed_years months_and_day_at looks_like two_at day_in_text clock civil_in_text fraction_in_text is_zone zone_in_text instant_of instant_in_text moment_in_text is_in_years fraction_places fraction_shown date_shown clock_shown instant_shown moment_shown
moment_computes = tt
