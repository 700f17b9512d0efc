mod Accepting
mod Agree
mod Allowed
mod Audited
mod Clients
mod Columns
mod Doing
mod Due
pub mod Exactly
pub mod Fitting
mod Follows
mod Frames
pub mod Given
pub mod Good
mod Hears
mod Holding
mod Incoming
pub mod Lists
mod Metas
mod Moments
mod Openings
mod Outgoing
mod PrivateDenied
pub mod PrivateInputs
pub mod PrivateJudged
mod PrivateMembers
pub mod PrivateParts
mod Read
mod Recorded
mod Sent
mod Shaping
mod Shut
mod Since
mod Starts
pub mod Stepping
mod Telling
pub mod Texts
mod Turning
mod Turns
pub mod Untouched
mod Whole
mod Within
pub mod Working
pub mod Kept
pub mod WorkersKeep
pub mod Pushing
pub mod OthersKeep
