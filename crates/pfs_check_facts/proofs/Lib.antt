mod EventMoments
mod FollowSteps
mod SessionSteps
