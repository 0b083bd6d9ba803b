-- The theorems over the calls, in reading order, each with its sentence; the statements are in specs/.

-- An attempt that is taken, and replies of n doubles each for which the counters have room, give the evaluations of the attempt in one piece and its end:
-- `run`. Where that is finished it is so after s + k replies, and the candidate is the last stage, in RKMC2 and TSRKC2 their combination (`finished`); k is
-- from 1 to 12, and each reply but the last is answered by a further evaluation (`took`).
pub mod Theorem
-- Where the counters lack room the attempt is the same up to the reply that is turned away with 8, and stays there: `evaluations_lack`, `attempts_lack`.
pub mod Room
-- Every attempt that is taken does one or the other: `always`.
pub mod Always
-- After a finished attempt: another without a call between, as after a rejection, and an accept: `again`, `accepts`.
pub mod Sequel
-- Under one setting an attempt depends on the kept state, the first derivative, the eigenvector and, with a history, the older state alone: `depends`.
pub mod Depends
-- From a start that is taken on, any list of calls shows what the session of specs/Session shows, which is the Rust's kernel in direct style but for the
-- listed differences and begins with zeros: `every_sequence`.
pub mod Sequences
-- Calls that are not taken may be left out: `skipped`.
pub mod Skipped
-- So what is proved of an attempt and its replies holds with such calls among them: `among`.
pub mod Among
-- A call is turned away with a number exactly when that is the number of its first failing test: `refused`; with no number outside its list: `listed`; and
-- with a number of the table: `one_of_the_table`. Where the counters are full, with 8: `no_room`, `full`.
pub mod Refused
-- What a call that is turned away leaves: `leaves`.
pub mod Leaves
-- In any calls from a start that is taken, a finished answer that tells s, k and r is that of a taken attempt and its s + k replies: `concluded`; what
-- the record holds of them while an attempt is under way: `under_way`; what a stage's record carries: `carries`.
pub mod Concluded
-- From a finished answer on, whatever calls follow that are no attempt that is taken, the record's s, k and r are those of the answer: `kept`. Whatever
-- the record, that k is from 1 to 12 and that s permitted: `told_in_range`. A call that is turned away, with any number, leaves the three: `refusal_keeps`.
pub mod Kept
-- Families 2 to 5: demand 3 of the s that a finished attempt ran, for its own r where that is finite: `served`; where it is infinite: `served_infinite`.
pub mod Served
-- Families 2 to 5: demand 3 of the rows of the stages that are run, and of a finished attempt's multiplier: `stage_close`, `first_close`, `rows_close`,
-- `finished_stable`.
pub mod Close
-- Document 01's case, by computation: `case_of_calls`; an attempt from a hot state: `hot_told`; and one whose r is a NaN, told as one: `nan_told`.
pub mod Case
-- Two cases of the Rust in RKMC2, by computation: `rkmc2_of_calls`.
pub mod RustCase
-- A case of the Rust in TSRKC2, three attempts of which two have a history, by computation: `two_step_of_calls`.
pub mod TwoStepCase
-- What they rest on. First what holds of any numbers, needs and lengths;
pub mod Truth
pub mod Numbers
pub mod Needs
pub mod Signs
pub mod Lengths
-- of one attempt, from one evaluation to the whole (Theorem, Room);
pub mod Follows
pub mod Asked
pub mod Stages
pub mod Passes
-- of the tests of a call (Refused);
pub mod Guards
-- of two computations that ask alike (Depends);
pub mod Alikes
pub mod Agree
-- of each call of a session (Sequences);
pub mod Shows
pub mod Standing
pub mod OnStart
pub mod OnAttempt
pub mod OnReply
pub mod OnAccept
pub mod OnAbandon
-- of what lists of calls come to (Concluded).
pub mod Later
pub mod Outcomes
pub mod Left
pub mod Underway
pub mod Latest
pub mod Trails
